-- What the clauses of one call of a reader say of many calls.
use Rattle.std.specs.Prelude.{◌≡◌, ℕ, zero, suc, ◌+◌, ◌≤◌, List, [], ◌∷◌, ◌++◌, length, Option, Err}
use Rattle.std.specs.Io.KnownBytes.{Consumes}
use Rattle.dir_names.specs.declared.schema.TypeRow.{TypeRow}
use Rattle.dir_ldif.specs.declared.faults.StreamFault.TheVariants.{LineTooLong}
use Rattle.dir_ldif.specs.declared.reader.Core.{Core}
use Rattle.dir_ldif.specs.declared.reader.Place.TheVariants.{Reading}
use Rattle.dir_ldif.specs.Reader.Answers.{EndsSoon, FirstIsComplete, GoesOn, answers_ahead, answers_at, hand}
use Rattle.dir_ldif.specs.Records.{Found, Answer, all_found}

-- calls that gave these answers, in turn
abbrev pub AnswersInTurn : List Found → List TypeRow → Core → Core → Option (List ℕ) → Option (List ℕ) → Type 0
AnswersInTurn [] rows old new left left' = (old ≡ new) × (left ≡ left')
AnswersInTurn (found ∷ more) rows old new left left' =
    (mid : Core) × (middle : Option (List ℕ)) × GoesOn found rows old mid left middle × AnswersInTurn more rows mid new middle left'

-- where calls gave these answers and the next one met a line that is too long, the bytes that were in hand and all that
-- were read since are a text and at most 8,192 bytes more. On that text alone the answers are these, and the line is not
-- too long yet
abbrev pub ReadingEndsSoon : Type 0
ReadingEndsSoon = (found : List Found) (rows : List TypeRow) (old new : Core) (left left' left'' : Option (List ℕ))
    → AnswersInTurn found rows old new left left' → EndsSoon LineTooLong rows new left' left''
    → (bytes : List ℕ) × (text : List ℕ) × (excess : List ℕ) × (rest : List Answer) × Consumes left left'' bytes × (hand old ++ bytes ≡ text ++ excess)
    × (length excess ≤ 8192) × (answers_ahead rows old text ≡ all_found found ++ rest) × (rest ≡ Err LineTooLong ∷ [] → ⊥)

-- the last call read bytes that complete no block
abbrev pub CompletesNone : List TypeRow → Core → Option (List ℕ) → Option (List ℕ) → Type 0
CompletesNone rows c left left' = (bytes : List ℕ) × Consumes left left' bytes × (FirstIsComplete (λ text. answers_at Reading rows c (bytes ++ text)) → ⊥)

-- where calls gave these answers and the next one completed no block, these answers come first on the bytes that were in
-- hand and all that were read since, whatever text follows, and no further block is complete
abbrev pub ReadingStopsThere : Type 0
ReadingStopsThere = (found : List Found) (rows : List TypeRow) (old new : Core) (left left' left'' : Option (List ℕ))
    → AnswersInTurn found rows old new left left' → CompletesNone rows new left' left''
    → (bytes : List ℕ) × (later : List ℕ → List Answer) × Consumes left left'' bytes
    × ((text : List ℕ) → answers_at Reading rows old (bytes ++ text) ≡ all_found found ++ later text) × (FirstIsComplete later → ⊥)

-- so many calls in turn, in each of which every read call, but one at the end of the source, gave a byte or more
abbrev pub CallsInTurn : ℕ → Core → Core → Option (List ℕ) → Option (List ℕ) → Type 0
CallsInTurn zero old new left left' = (old ≡ new) × (left ≡ left')
CallsInTurn (suc n) old new left left' =
    (mid : Core) × (middle : Option (List ℕ))
    × ((bytes : List ℕ) × Consumes left middle bytes × (old.turns ≤ mid.turns + length bytes))
    × CallsInTurn n mid new middle left'

-- the call read at least as many bytes as read calls were left
abbrev pub GivesNoEnd : Core → Option (List ℕ) → Option (List ℕ) → Type 0
GivesNoEnd c left left' = (bytes : List ℕ) × Consumes left left' bytes × (c.turns ≤ length bytes)

-- where the last of many calls used up the read calls, all calls read at least as many bytes as there were read calls
abbrev pub ReadCallsAreUsed : Type 0
ReadCallsAreUsed = (n : ℕ) (old new : Core) (left left' left'' : Option (List ℕ))
    → CallsInTurn n old new left left' → GivesNoEnd new left' left'' → GivesNoEnd old left left''
