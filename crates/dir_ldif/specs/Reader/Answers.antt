-- The answers that a reader has still to give, and what one call does to them. The words of Reader say the same of a `RecordReader`.
use Rattle.std.specs.Prelude.{◌≡◌, ℕ, ◌+◌, ◌-◌, ◌*◌, ◌≤◌, List, [], ◌∷◌, ◌++◌, take, drop, length, Option, None, Some, IfSome, ⊤, Ok, Err}
use Rattle.std.specs.Option.{option_and_then, option_map}
use Rattle.std.specs.Io.KnownBytes.{Consumes}
use Rattle.dir_names.specs.declared.schema.TypeRow.{TypeRow}
use Rattle.dir_ldif.specs.declared.faults.StreamFault.{StreamFault}
use Rattle.dir_ldif.specs.declared.faults.StreamFault.TheVariants.{LineTooLong, Read, Memory, TooManyTurns, BadVersion, BadMark}
use Rattle.dir_ldif.specs.declared.faults.StreamFault.TheVariants.{Ended as AfterFault}
use Rattle.dir_ldif.specs.declared.reader.Core.{Core}
use Rattle.dir_ldif.specs.declared.reader.Place.{Place}
use Rattle.dir_ldif.specs.declared.reader.Place.TheVariants.{Reading, AtEnd, Ended}
use Rattle.dir_ldif.specs.Device.{HasFailed}
use Rattle.dir_ldif.specs.Blocks.{BlockResult}
use Rattle.dir_ldif.specs.Reader.Unfolding.{blocks_to_come, to_come}
use Rattle.dir_ldif.specs.Remainder.{Remainder, blocks_in, marks_in}
use Rattle.dir_ldif.specs.Records.{Found, Answer, answers_on}

-- ---- the bytes that were read

-- the bytes in hand: they were read, and not used up yet
abbrev pub hand : Core → List ℕ
hand c = take (c.end - c.at) (drop c.at c.buffer.items)

-- how many bytes may still be used up: those in hand, and 8,192 for each read call that is left
abbrev pub bytes_ahead : Core → ℕ
bytes_ahead c = 8192 * c.turns + length (hand c)

-- each read call gave at most 8,192 bytes
abbrev pub IsInPieces : Core → Core → Option (List ℕ) → Option (List ℕ) → Type 0
IsInPieces old new left left' = (bytes : List ℕ) × Consumes left left' bytes × (length bytes + 8192 * new.turns ≤ 8192 * old.turns)

-- ---- the answers to come

-- what is to come where the source still gives this text
abbrev pub to_read : Core → List ℕ → Remainder
to_read c text = to_come c.unfolder (hand c ++ text)

-- the blocks to come where the source still gives this text
abbrev pub blocks_left : Core → List ℕ → List BlockResult
blocks_left c text = blocks_in (to_read c text)

-- the answers to come where the source still gives this text
abbrev pub answers_at : Place → List TypeRow → Core → List ℕ → List Answer
answers_at Reading rows c text = answers_on rows (blocks_left c text)
answers_at AtEnd rows c text = []
answers_at Ended rows c text = []

-- the answers to come where this text follows what was used up, in place of the bytes in hand and of those that the source
-- has left
abbrev pub answers_ahead : List TypeRow → Core → List ℕ → List Answer
answers_ahead rows c text = answers_on rows (blocks_to_come c.unfolder text)

-- the answers to come, where the bytes that the source has left are known
abbrev pub answers_left : List TypeRow → Core → Option (List ℕ) → Option (List Answer)
answers_left rows c left = option_map (answers_at c.place rows c) left

-- ---- the marks to come

-- the marks that are passed at the end, where the source still gives this text, if that is no fault
abbrev pub marks_at : Place → Core → List ℕ → Option ℕ
marks_at Reading c text = marks_in (to_read c text)
marks_at AtEnd c text = Some c.unfolder.marks.passed
marks_at Ended c text = None

-- the same, where the bytes that the source has left are known
abbrev pub marks_left : Core → Option (List ℕ) → Option ℕ
marks_left c left = option_and_then (marks_at c.place c) left

-- marks that were known to be passed at the end still are
abbrev pub KeepsMarks : Option ℕ → Option ℕ → Type 0
KeepsMarks old new = IfSome old (λ n. new ≡ Some n)

-- ---- what a call answers

-- the answer is the first of the known answers, and the rest is left
abbrev pub GivesFirst : Answer → Option (List Answer) → Option (List Answer) → Type 0
GivesFirst answer None new = ⊤
GivesFirst answer (Some answers) None = ⊥
GivesFirst answer (Some answers) (Some rest) = answers ≡ answer ∷ rest

-- no answer was left
abbrev pub GivesNone : Option (List Answer) → Type 0
GivesNone answers = IfSome answers (λ known. known ≡ [])

-- an answer on a block was given: of the bytes in hand and those that were read in the call a prefix was used up, and
-- whatever text follows that prefix, the answer is the first of those to come, and the rest is left
abbrev pub GoesOn : Found → List TypeRow → Core → Core → Option (List ℕ) → Option (List ℕ) → Type 0
GoesOn found rows old new left left' =
    (bytes : List ℕ) × (used : List ℕ) × Consumes left left' bytes × (hand old ++ bytes ≡ used ++ hand new)
    × ((text : List ℕ) → answers_ahead rows old (used ++ text) ≡ Ok found ∷ answers_ahead rows new text)

-- the first block is complete: its answer comes first, whatever text follows
abbrev pub FirstIsComplete : (List ℕ → List Answer) → Type 0
FirstIsComplete answers = (found : Found) × ((text : List ℕ) → (rest : List Answer) × (answers text ≡ Ok found ∷ rest))

-- why a reader gives no further answer: the text is at fault, and no other answer was left; the source failed
-- in this call, or gave as many bytes as read calls were left, and the bytes that it gave complete no block; an earlier
-- call answered a fault; or memory ran out
abbrev pub ExplainsFault : StreamFault → List TypeRow → Core → Option (List ℕ) → Option (List ℕ) → ℕ → ℕ → Type 0
ExplainsFault LineTooLong rows old left left' failures failures' = IfSome (answers_left rows old left) (λ known. known ≡ Err LineTooLong ∷ [])
ExplainsFault BadVersion rows old left left' failures failures' = IfSome (answers_left rows old left) (λ known. known ≡ Err BadVersion ∷ [])
ExplainsFault BadMark rows old left left' failures failures' = IfSome (answers_left rows old left) (λ known. known ≡ Err BadMark ∷ [])
ExplainsFault Read rows old left left' failures failures' =
    HasFailed failures failures'
    × ((bytes : List ℕ) × Consumes left left' bytes × (FirstIsComplete (λ text. answers_at Reading rows old (bytes ++ text)) → ⊥))
ExplainsFault TooManyTurns rows old left left' failures failures' =
    (bytes : List ℕ) × Consumes left left' bytes × (old.turns ≤ length bytes) × (FirstIsComplete (λ text. answers_at Reading rows old (bytes ++ text)) → ⊥)
ExplainsFault Memory rows old left left' failures failures' = Unit {0}
ExplainsFault AfterFault rows old left left' failures failures' = old.place ≡ Ended

-- a line that is too long is found soon: the bytes in hand and those that were read in the call are a text in which no
-- line is too long yet (if it ended there, `LineTooLong` would not be its only answer), and at most 8,192 bytes more
abbrev pub EndsSoon : StreamFault → List TypeRow → Core → Option (List ℕ) → Option (List ℕ) → Type 0
EndsSoon LineTooLong rows old left left' =
    (bytes : List ℕ) × (text : List ℕ) × (excess : List ℕ) × Consumes left left' bytes × (hand old ++ bytes ≡ text ++ excess) × (length excess ≤ 8192)
    × (answers_ahead rows old text ≡ Err LineTooLong ∷ [] → ⊥)
EndsSoon Read rows old left left' = Unit {0}
EndsSoon Memory rows old left left' = Unit {0}
EndsSoon AfterFault rows old left left' = Unit {0}
EndsSoon TooManyTurns rows old left left' = Unit {0}
EndsSoon BadVersion rows old left left' = Unit {0}
EndsSoon BadMark rows old left left' = Unit {0}
