-- Lemmas on what is left to be read, and the blocks of it.
use Rattle.std.proofs.Common.{◌≡◌, ◌∷◌, ◌++◌, Bool, false, true, if◌then◌else◌, List, [], refl, ap, ◌∙◌, Ok, Err}
use Rattle.dir_names.specs.declared.schema.TypeRow.{TypeRow}
use Rattle.dir_ldif.specs.declared.faults.StreamFault.{StreamFault}
use Rattle.dir_ldif.specs.declared.faults.StreamFault.TheVariants.{LineTooLong, Read, Memory, Ended, TooManyTurns, BadVersion, BadMark}
use Rattle.dir_ldif.specs.Bytes.{is_empty}
use Rattle.dir_ldif.specs.LogicalLines.{Line, is_comment, is_long}
use Rattle.dir_ldif.specs.Marks.{after_comment, ignored}
use Rattle.dir_ldif.specs.declared.reader.version.Version.{Version}
use Rattle.dir_ldif.specs.declared.reader.version.Version.TheVariants.{Absent, One, Other}
use Rattle.dir_ldif.specs.Blocks.{BlockResult, EndsAtOnce, block_then, blocks_from, by_version, version_of}
use Rattle.dir_ldif.specs.Remainder.{FailsAtOnce, Remainder, after_marks, blocks_in, done, fails, marks_in, remainder_from, then_rest}
use Rattle.dir_ldif.specs.Records.{answers_on, found_of}
use Rattle.dir_ldif.proofs.RecordsLemmas.{answers_on-block_then, answers_on-give-none}

pub blocks_in-then : (block : List Line) (left : Remainder) → blocks_in (then_rest block left) ≡ block_then block (blocks_in left)
blocks_in-then [] left = refl
blocks_in-then (line ∷ lines) left = refl

pub marks_in-then : (block : List Line) (left : Remainder) → marks_in (then_rest block left) ≡ marks_in left
marks_in-then [] left = refl
marks_in-then (line ∷ lines) left = refl

pub answers_in-then : (rows : List TypeRow) (block : List Line) (left : Remainder) → is_empty block ≡ false → answers_on rows (blocks_in (then_rest block left)) ≡ Ok (found_of rows block) ∷ answers_on rows (blocks_in left)
answers_in-then rows block left some = ap (answers_on rows) (blocks_in-then block left) ∙ answers_on-block_then rows block (blocks_in left) some

pub answers_in-none : (rows : List TypeRow) (block : List Line) (left : Remainder) → is_empty block ≡ true → answers_on rows (blocks_in (then_rest block left)) ≡ answers_on rows (blocks_in left)
answers_in-none rows block left none = ap (answers_on rows) (blocks_in-then block left) ∙ answers_on-give-none rows block (blocks_in left) none

pub ends_at_once : (fault : StreamFault) (left : Remainder) → FailsAtOnce fault left → EndsAtOnce fault (blocks_in left)
ends_at_once LineTooLong left h = ap blocks_in h
ends_at_once BadVersion left h = ap blocks_in h
ends_at_once BadMark left h = ap blocks_in h
ends_at_once Memory left h = tt
ends_at_once Read left h = h
ends_at_once Ended left h = h
ends_at_once TooManyTurns left h = h

-- ---- where marks are comments, it is the text's blocks

blocks_in-if : (v : Bool) (x y : Remainder) → blocks_in (if v then x else y) ≡ (if v then blocks_in x else blocks_in y)
blocks_in-if true x y = refl
blocks_in-if false x y = refl

if_same : {A : Type 0} (v : Bool) {x y x' y' : A} → x ≡ x' → y ≡ y' → (if v then x else y) ≡ (if v then x' else y')
if_same true p q = p
if_same false p q = q

blocks_in-version : (v : Version) (absent one : Remainder) → blocks_in (by_version v absent one (fails BadVersion)) ≡ by_version v (blocks_in absent) (blocks_in one) (Err BadVersion ∷ [])
blocks_in-version Absent absent one = refl
blocks_in-version One absent one = refl
blocks_in-version Other absent one = refl

version_same : (v : Version) (other : List BlockResult) {absent absent' one one' : List BlockResult} → absent ≡ absent' → one ≡ one' → by_version v absent one other ≡ by_version v absent' one' other
version_same Absent other p q = p
version_same One other p q = q
version_same Other other p q = refl

after_ignored : (begun : Bool) (block : List Line) (line : Line) (rest : List Line) → ((block : List Line) → blocks_in (remainder_from ignored begun block rest) ≡ blocks_from begun block rest)
    → blocks_in (if is_empty block then after_marks (λ m. remainder_from m begun [] rest) (after_comment ignored line.1) else remainder_from ignored begun block rest) ≡ blocks_from begun block rest
after_ignored begun [] line rest h = h []
after_ignored begun (b ∷ bs) line rest h = h (b ∷ bs)

pub remainder_is_blocks : (begun : Bool) (block lines : List Line) → blocks_in (remainder_from ignored begun block lines) ≡ blocks_from begun block lines
remainder_is_blocks begun block [] = blocks_in-then block (done 0)
remainder_is_blocks begun block (line ∷ rest) =
    blocks_in-if (is_long line) _ _ ∙ if_same (is_long line) refl
    (blocks_in-if (is_comment line) _ _ ∙ if_same (is_comment line) (after_ignored begun block line rest (λ b. remainder_is_blocks begun b rest))
    (blocks_in-if (is_empty line.1) _ _ ∙ if_same (is_empty line.1) (blocks_in-then block _ ∙ ap (block_then block) (remainder_is_blocks begun [] rest))
    (blocks_in-if begun _ _ ∙ if_same begun (remainder_is_blocks true (block ++ line ∷ []) rest)
    (blocks_in-version (version_of line.1) _ _ ∙ version_same (version_of line.1) _ (remainder_is_blocks true (block ++ line ∷ []) rest) (remainder_is_blocks true block rest)))))
