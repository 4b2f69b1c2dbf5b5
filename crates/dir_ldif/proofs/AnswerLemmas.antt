-- Lemmas on the answers that a reader has still to give.
use Rattle.std.proofs.Common.{◌≡◌, ℕ, true, false, List, [], ◌∷◌, ◌++◌, refl, sym, ap, subst, ◌∙◌, Option, None, Some, IfSome, Ok, Err}
use Rattle.std.specs.Option.{option_and_then, option_map}
use Rattle.std.specs.Io.KnownBytes.{Consumes}
use Rattle.dir_names.specs.declared.schema.TypeRow.{TypeRow}
use Rattle.dir_ldif.specs.declared.faults.StreamFault.{StreamFault}
use Rattle.dir_ldif.specs.declared.faults.StreamFault.TheVariants.{LineTooLong, Read, Memory, TooManyTurns, BadVersion, BadMark}
use Rattle.dir_ldif.specs.declared.faults.StreamFault.TheVariants.{Ended as AfterFault}
use Rattle.dir_ldif.specs.declared.reader.Core.{Core}
use Rattle.dir_ldif.specs.declared.reader.Place.{Place}
use Rattle.dir_ldif.specs.declared.reader.Place.TheVariants.{Reading, AtEnd, Ended}
use Rattle.dir_ldif.specs.Bytes.{is_empty}
use Rattle.dir_ldif.specs.LogicalLines.{Line}
use Rattle.dir_ldif.specs.Remainder.{NoBlock, Remainder, blocks_in, done, fails, holds, marks_in, then_rest}
use Rattle.dir_ldif.specs.Inside.Reader.{Finds, Stops, MayFail}
use Rattle.dir_ldif.specs.Reader.Answers.{ExplainsFault, FirstIsComplete, GivesFirst, GivesNone, KeepsMarks, answers_at, answers_left, marks_at, marks_left, to_read}
use Rattle.dir_ldif.specs.Records.{Answer, Found, found_of, answers_on}
use Rattle.dir_ldif.proofs.RemainderLemmas.{answers_in-then, answers_in-none, marks_in-then}

-- ---- a block was found

gives_first : (place : Place) (rows : List TypeRow) (old new : Core) (block : List Line) (left left' : Option (List ℕ)) (bytes : List ℕ) (marks : ℕ) → Consumes left left' bytes
    → Finds place (to_read old) block (to_read new) marks bytes left' → is_empty block ≡ false
    → GivesFirst (Ok (found_of rows block)) (option_map (answers_at Reading rows old) left) (option_map (answers_at place rows new) left')
gives_first Reading rows old new block None left' bytes marks took found some = tt
gives_first Reading rows old new block (Some known) None bytes marks took found some = absurd took
gives_first Reading rows old new block (Some known) (Some rest) bytes marks took found some =
    ap (λ t. answers_on rows (blocks_in (to_read old t))) took ∙ ap (λ r. answers_on rows (blocks_in r)) (found rest) ∙ answers_in-then rows block (to_read new rest) some
gives_first AtEnd rows old new block None left' bytes marks took found some = tt
gives_first AtEnd rows old new block (Some known) None bytes marks took found some = absurd took
gives_first AtEnd rows old new block (Some known) (Some rest) bytes marks took found some =
    ap (λ t. answers_on rows (blocks_in (to_read old t))) took ∙ ap (λ r. answers_on rows (blocks_in r)) found ∙ answers_in-then rows block (done marks) some
gives_first Ended rows old new block left left' bytes marks took found some = absurd found

pub next_first : (rows : List TypeRow) (old new : Core) (block : List Line) (left left' : Option (List ℕ)) (bytes : List ℕ) (marks : ℕ) → old.place ≡ Reading → Consumes left left' bytes
    → Finds new.place (to_read old) block (to_read new) marks bytes left' → is_empty block ≡ false
    → GivesFirst (Ok (found_of rows block)) (answers_left rows old left) (answers_left rows new left')
next_first rows old new block left left' bytes marks reading took found some =
    subst (λ p. GivesFirst (Ok (found_of rows block)) (option_map (answers_at p rows old) left) (answers_left rows new left')) (sym reading)
    (gives_first new.place rows old new block left left' bytes marks took found some)

-- ---- no block was left

at_end : (place : Place) (old new : List ℕ → Remainder) (block : List Line) (marks : ℕ) (bytes : List ℕ) (left : Option (List ℕ)) → Finds place old block new marks bytes left → (place ≡ Reading → is_empty block ≡ false)
    → is_empty block ≡ true → place ≡ AtEnd
at_end Reading old new block marks bytes left found some none = let never : false ≡ true = sym (some refl) ∙ none in cc
at_end AtEnd old new block marks bytes left found some none = refl
at_end Ended old new block marks bytes left found some none = absurd found

gives_none : (rows : List TypeRow) (old : Core) (block : List Line) (marks : ℕ) (left left' : Option (List ℕ)) (bytes : List ℕ) → Consumes left left' bytes → IfSome left' (λ text. to_read old (bytes ++ text) ≡ then_rest block (done marks))
    → is_empty block ≡ true → GivesNone (option_map (answers_at Reading rows old) left)
gives_none rows old block marks None left' bytes took e none = tt
gives_none rows old block marks (Some known) None bytes took e none = absurd took
gives_none rows old block marks (Some known) (Some rest) bytes took e none =
    ap (λ t. answers_on rows (blocks_in (to_read old t))) took ∙ ap (λ r. answers_on rows (blocks_in r)) e ∙ answers_in-none rows block (done marks) none

pub next_none : (rows : List TypeRow) (old new : Core) (block : List Line) (left left' : Option (List ℕ)) (bytes : List ℕ) (marks : ℕ) → old.place ≡ Reading → Consumes left left' bytes
    → Finds new.place (to_read old) block (to_read new) marks bytes left' → (new.place ≡ Reading → is_empty block ≡ false) → is_empty block ≡ true
    → GivesNone (answers_left rows old left) × (new.place ≡ AtEnd)
next_none rows old new block left left' bytes marks reading took found some none =
    let end = at_end new.place (to_read old) (to_read new) block marks bytes left' found some none in
    let last : IfSome left' (λ text. to_read old (bytes ++ text) ≡ then_rest block (done marks)) = subst (λ p. Finds p (to_read old) block (to_read new) marks bytes left') end found in (
      subst (λ p. GivesNone (option_map (answers_at p rows old) left)) (sym reading) (gives_none rows old block marks left left' bytes took last none),
      end,
    )

-- ---- no block was found

no_first : (rows : List TypeRow) (left : Remainder) (found : Found) (rest : List Answer) → NoBlock left → answers_on rows (blocks_in left) ≡ Ok found ∷ rest → ⊥
no_first rows (holds block left) found rest none e = none
no_first rows (fails f) found rest none e = cc
no_first rows (done n) found rest none e = cc

none_complete : (rows : List TypeRow) (old : Core) (bytes : List ℕ) → MayFail (λ text. to_read old (bytes ++ text)) → FirstIsComplete (λ text. answers_at Reading rows old (bytes ++ text)) → ⊥
none_complete rows old bytes may s = may (λ text none. let right = s.1 text in no_first rows (to_read old (bytes ++ text)) s.0 right.0 none right.1)

faults_of_text : (rows : List TypeRow) (old : Core) (left left' : Option (List ℕ)) (bytes : List ℕ) (fault : StreamFault) → Consumes left left' bytes
    → IfSome left' (λ text. to_read old (bytes ++ text) ≡ fails fault) → IfSome (option_map (answers_at Reading rows old) left) (λ known. known ≡ Err fault ∷ [])
faults_of_text rows old None left' bytes fault took h = tt
faults_of_text rows old (Some known) None bytes fault took h = absurd took
faults_of_text rows old (Some known) (Some rest) bytes fault took h = ap (λ t. answers_on rows (blocks_in (to_read old t))) took ∙ ap (λ r. answers_on rows (blocks_in r)) h

pub next_faults : (fault : StreamFault) (rows : List TypeRow) (old new : Core) (left left' : Option (List ℕ)) (bytes : List ℕ) (failures failures' : ℕ) → old.place ≡ Reading → Consumes left left' bytes
    → Stops fault old new bytes left' failures failures' → ExplainsFault fault rows old left left' failures failures'
next_faults LineTooLong rows old new left left' bytes f f' reading took h =
    subst (λ p. IfSome (option_map (answers_at p rows old) left) (λ known. known ≡ Err LineTooLong ∷ [])) (sym reading) (faults_of_text rows old left left' bytes LineTooLong took h)
next_faults BadVersion rows old new left left' bytes f f' reading took h =
    subst (λ p. IfSome (option_map (answers_at p rows old) left) (λ known. known ≡ Err BadVersion ∷ [])) (sym reading) (faults_of_text rows old left left' bytes BadVersion took h)
next_faults BadMark rows old new left left' bytes f f' reading took h =
    subst (λ p. IfSome (option_map (answers_at p rows old) left) (λ known. known ≡ Err BadMark ∷ [])) (sym reading) (faults_of_text rows old left left' bytes BadMark took h)
next_faults Read rows old new left left' bytes f f' reading took h = (h.0, (bytes, took, none_complete rows old bytes h.2))
next_faults TooManyTurns rows old new left left' bytes f f' reading took h = (bytes, took, h.0, none_complete rows old bytes h.2)
next_faults Memory rows old new left left' bytes f f' reading took h = tt
next_faults AfterFault rows old new left left' bytes f f' reading took h = absurd h

-- ---- marks

same : (old new : Option ℕ) → old ≡ new → KeepsMarks old new
same None new e = tt
same (Some n) new e = sym e

keeps_at : (place : Place) (old new : Core) (block : List Line) (left left' : Option (List ℕ)) (bytes : List ℕ) → Consumes left left' bytes
    → Finds place (to_read old) block (to_read new) new.unfolder.marks.passed bytes left' → KeepsMarks (option_and_then (marks_at Reading old) left) (option_and_then (marks_at place new) left')
keeps_at place old new block None left' bytes took found = tt
keeps_at place old new block (Some known) None bytes took found = absurd took
keeps_at Reading old new block (Some known) (Some rest) bytes took found =
    same (marks_in (to_read old known)) (marks_in (to_read new rest)) (ap (λ t. marks_in (to_read old t)) took ∙ ap marks_in (found rest) ∙ marks_in-then block (to_read new rest))
keeps_at AtEnd old new block (Some known) (Some rest) bytes took found =
    same (marks_in (to_read old known)) (Some new.unfolder.marks.passed) (ap (λ t. marks_in (to_read old t)) took ∙ ap marks_in found ∙ marks_in-then block (done new.unfolder.marks.passed))
keeps_at Ended old new block (Some known) (Some rest) bytes took found = absurd found

-- the marks at the end stay the same
pub next_keeps : (old new : Core) (block : List Line) (left left' : Option (List ℕ)) (bytes : List ℕ) → old.place ≡ Reading → Consumes left left' bytes
    → Finds new.place (to_read old) block (to_read new) new.unfolder.marks.passed bytes left' → KeepsMarks (marks_left old left) (marks_left new left')
next_keeps old new block left left' bytes reading took found =
    subst (λ p. KeepsMarks (option_and_then (marks_at p old) left) (marks_left new left')) (sym reading) (keeps_at new.place old new block left left' bytes took found)

-- and at the end they are those that were passed
counted_at : (m : ℕ) (old : Option ℕ) (left : Option (List ℕ)) → KeepsMarks old (option_and_then (λ (t : List ℕ). Some m) left) → IfSome old (λ n. m ≡ n)
counted_at m None left h = tt
counted_at m (Some n) None h = cc
counted_at m (Some n) (Some t) h = cc

pub next_counted : (new : Core) (old : Option ℕ) (left : Option (List ℕ)) → new.place ≡ AtEnd → KeepsMarks old (marks_left new left) → IfSome old (λ n. new.unfolder.marks.passed ≡ n)
next_counted new old left end h = counted_at new.unfolder.marks.passed old left (subst (λ p. KeepsMarks old (option_and_then (marks_at p new) left)) end h)

counted_now : (m : ℕ) (left : Option (List ℕ)) → IfSome (option_and_then (λ (t : List ℕ). Some m) left) (λ n. m ≡ n)
counted_now m None = tt
counted_now m (Some t) = refl

pub end_counted : (c : Core) (left : Option (List ℕ)) → c.place ≡ AtEnd → IfSome (marks_left c left) (λ n. c.unfolder.marks.passed ≡ n)
end_counted c left end = subst (λ p. IfSome (option_and_then (marks_at p c) left) (λ n. c.unfolder.marks.passed ≡ n)) (sym end) (counted_now c.unfolder.marks.passed left)
