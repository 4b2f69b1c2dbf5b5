-- Lemmas on how soon a reader finds a line that is too long.
use Rattle.std.proofs.Common.{◌≡◌, ℕ, ◌-◌, ◌≤◌, false, List, [], ◌∷◌, ◌++◌, length, drop, refl, sym, ap, ◌∙◌, append_assoc, append-nil, Option, None, Some, Result, Ok, Err, IfErr, arith}
use Rattle.std.proofs.lemmas.List.{length-take}
use Rattle.std.specs.Io.KnownBytes.{Consumes}
use Rattle.dir_ldif.specs.Remainder.{Remainder, blocks_in, done, fails, holds, then_rest}
use Rattle.dir_ldif.specs.declared.faults.StreamFault.{StreamFault}
use Rattle.dir_ldif.specs.declared.faults.StreamFault.TheVariants.{LineTooLong, Read, Memory, Ended, TooManyTurns, BadVersion, BadMark}
use Rattle.dir_ldif.specs.declared.reader.unfolder.Unfolder.{Unfolder}
use Rattle.dir_ldif.specs.declared.reader.Core.{Core}
use Rattle.dir_ldif.specs.Reader.Unfolding.{to_come}
use Rattle.dir_ldif.specs.Inside.Reader.{IsSoon, StopsSoon, Uses}
use Rattle.dir_ldif.specs.Reader.Answers.{to_read, hand, EndsSoon, GoesOn}
use Rattle.dir_names.specs.declared.schema.TypeRow.{TypeRow}
use Rattle.dir_ldif.specs.Bytes.{is_empty}
use Rattle.dir_ldif.specs.LogicalLines.{Line}
use Rattle.dir_ldif.specs.Records.{Found, found_of, answers_on}
use Rattle.dir_ldif.proofs.RemainderLemmas.{answers_in-then}
use Rattle.dir_ldif.proofs.NoLongLine.{unfolder_goes}

pub Consumes-nothing : (o : Option (List ℕ)) → Consumes o o []
Consumes-nothing None = tt
Consumes-nothing (Some xs) = refl

-- what is in hand now is the end of what was read
abbrev pub Takes : Core → List ℕ → Core → Type 0
Takes c bytes now = (front : List ℕ) × (hand c ++ bytes ≡ front ++ hand now) × ((text : List ℕ) → to_come c.unfolder (front ++ text) ≡ to_come now.unfolder text)

pub takes_nothing : (c : Core) → Takes c [] c
takes_nothing c = ([], append-nil (hand c), λ text. refl)

-- all that was in hand was taken, and a piece was read
pub takes_piece : (c now new : Core) (j : Unfolder) (bytes : List ℕ) → ((text : List ℕ) → to_read c (bytes ++ text) ≡ to_read now text) → ((text : List ℕ) → to_read now text ≡ to_come j text) → new.unfolder ≡ j
    → Takes c (bytes ++ hand new) new
takes_piece c now new j bytes same taken is =
    (hand c ++ bytes, sym (append_assoc (hand c) bytes (hand new)), λ text. ap (to_come c.unfolder) (append_assoc (hand c) bytes text) ∙ same text ∙ taken text ∙ ap (λ k. to_come k text) (sym is))

pub length_hand : (c : Core) → length (hand c) ≤ 8192
length_hand c = omega (arith, length-take (c.end - c.at) (drop c.at c.buffer.items), c.in_range, c.in_buffer, c.piece)

stops_soon : (fault : StreamFault) (c : Core) (left left' : Option (List ℕ)) (bytes : List ℕ) → Consumes left left' bytes → IsSoon c bytes → StopsSoon fault c left left'
stops_soon LineTooLong c left left' bytes took soon = (bytes, took, soon)
stops_soon Read c left left' bytes took soon = tt
stops_soon Memory c left left' bytes took soon = tt
stops_soon Ended c left left' bytes took soon = tt
stops_soon TooManyTurns c left left' bytes took soon = tt
stops_soon BadVersion c left left' bytes took soon = tt
stops_soon BadMark c left left' bytes took soon = tt

-- the fault lies in the hand
pub hand_soon : (fault : StreamFault) (c now : Core) (left left' : Option (List ℕ)) (bytes : List ℕ) → Consumes left left' bytes → Takes c bytes now → StopsSoon fault c left left'
hand_soon fault c now left left' bytes took t =
    stops_soon fault c left left' bytes took
    (t.0, hand now, t.1, length_hand now, λ e. unfolder_goes now.unfolder (sym (t.2 []) ∙ ap (to_come c.unfolder) (append-nil t.0) ∙ e))

-- all that was in hand was taken without a fault
pub end_soon : (fault : StreamFault) (c now : Core) (j : Unfolder) (left left' : Option (List ℕ)) (bytes : List ℕ) → Consumes left left' bytes → ((text : List ℕ) → to_read c (bytes ++ text) ≡ to_read now text)
    → ((text : List ℕ) → to_read now text ≡ to_come j text) → StopsSoon fault c left left'
end_soon fault c now j left left' bytes took same taken =
    let all : to_come c.unfolder (hand c ++ bytes) ≡ to_come j [] = ap (λ t. to_come c.unfolder (hand c ++ t)) (sym (append-nil bytes)) ∙ same [] ∙ taken [] in
    stops_soon fault c left left' bytes took (hand c ++ bytes, [], sym (append-nil (hand c ++ bytes)), omega arith, λ e. unfolder_goes j (sym all ∙ e))

pub any_err : {T E : Type 0} (r : Result T E) (P : E → Type 0) → ((e : E) → P e) → IfErr r P
any_err (Ok x) P h = tt
any_err (Err e) P h = h e

-- ---- a block was taken

pub block_used : (c now new : Core) (block : List Line) (left left' : Option (List ℕ)) (bytes : List ℕ) → Consumes left left' bytes → Takes c bytes now
    → (used : List ℕ) × (hand now ≡ used ++ hand new) × ((text : List ℕ) → to_come now.unfolder (used ++ text) ≡ then_rest block (to_come new.unfolder text)) → Uses c new block left left'
block_used c now new block left left' bytes took t u =
    (bytes, t.0 ++ u.0, took, t.1 ∙ ap (λ h. t.0 ++ h) u.1 ∙ sym (append_assoc t.0 u.0 (hand new)), λ text. ap (to_come c.unfolder) (append_assoc t.0 u.0 text) ∙ t.2 (u.0 ++ text) ∙ u.2 text)

pub answer_used : (rows : List TypeRow) (old new : Core) (block : List Line) (found : Found) (left left' : Option (List ℕ)) → found ≡ found_of rows block → is_empty block ≡ false → Uses old new block left left'
    → GoesOn found rows old new left left'
answer_used rows old new block found left left' is some u =
    (u.0, u.1, u.2, u.3, λ text. ap (λ r. answers_on rows (blocks_in r)) (u.4 text) ∙ answers_in-then rows block (to_come new.unfolder text) some ∙ ap (λ (f : Found). Ok f ∷ answers_on rows (blocks_in (to_come new.unfolder text))) (sym is))

-- ---- a line is too long

fault_alone : (rows : List TypeRow) (left : Remainder) (fault : StreamFault) → answers_on rows (blocks_in left) ≡ Err fault ∷ [] → left ≡ fails fault
fault_alone rows (holds block rest) fault e = cc
fault_alone rows (fails other) fault e = cc
fault_alone rows (done n) fault e = cc

pub ends_soon : (fault : StreamFault) (rows : List TypeRow) (old : Core) (left left' : Option (List ℕ)) → StopsSoon fault old left left' → EndsSoon fault rows old left left'
ends_soon LineTooLong rows old left left' h =
    let soon = h.2 in
    (h.0, soon.0, soon.1, h.1, soon.2, soon.3, λ e. soon.4 (fault_alone rows (to_come old.unfolder soon.0) LineTooLong e))
ends_soon Read rows old left left' h = tt
ends_soon Memory rows old left left' h = tt
ends_soon Ended rows old left left' h = tt
ends_soon TooManyTurns rows old left left' h = tt
ends_soon BadVersion rows old left left' h = tt
ends_soon BadMark rows old left left' h = tt
