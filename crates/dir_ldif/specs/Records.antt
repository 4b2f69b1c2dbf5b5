-- The records of a text (RFC 2849, "Formal Syntax Definition of LDIF", ldif-file), each with its line, and how the text
-- ends.
use Rattle.std.specs.Prelude.{◌≡◌, ℕ, ◌<◌, Option, false, List, [], ◌∷◌, ◌++◌, map, length, Result, Ok, Err}
use Rattle.dir_names.specs.declared.schema.TypeRow.{TypeRow}
use Rattle.dir_ldif.specs.declared.faults.RecordFault.{RecordFault}
use Rattle.dir_ldif.specs.declared.faults.StreamFault.{StreamFault}
use Rattle.dir_ldif.specs.declared.faults.StreamFault.TheVariants.{LineTooLong, Read, Memory, Ended, TooManyTurns, BadVersion, BadMark}
use Rattle.dir_ldif.specs.declared.records.Record.{Record}
use Rattle.dir_ldif.specs.RecordGrammar.{record_of}
use Rattle.dir_ldif.specs.LogicalLines.{Line, lines_of}
use Rattle.dir_ldif.specs.Marks.{up_to}
use Rattle.dir_ldif.specs.Remainder.{Remainder, blocks_in, marks_in, remainder_from}
use Rattle.dir_ldif.specs.Blocks.{BlockResult, blocks_of}

-- the number of a record's first line that is no comment, and the record or its fault
abbrev pub Found : Type 0
Found = ℕ × Result Record RecordFault

-- one answer of a reader. A stream fault is the last one
abbrev pub Answer : Type 0
Answer = Result Found StreamFault

abbrev pub first_number : List Line → ℕ
first_number [] = 0
first_number (line ∷ lines) = line.0

-- the record of a block, with its line
abbrev pub found_of : List TypeRow → List Line → Found
found_of rows block = (first_number block, record_of rows block)

abbrev pub answer_of : List TypeRow → BlockResult → Answer
answer_of rows (Ok block) = Ok (found_of rows block)
answer_of rows (Err fault) = Err fault

-- the answers on the blocks of a text
abbrev pub answers_on : List TypeRow → List BlockResult → List Answer
answers_on rows blocks = map (answer_of rows) blocks

-- the records of a text, and the fault in which it may end
abbrev pub records_of : List TypeRow → List ℕ → List Answer
records_of rows text = answers_on rows (blocks_of text)

-- what is read of an undo text, where so many of its groups are wanted: its records before the mark after them, and then its end or a fault
abbrev pub read_up_to : ℕ → List ℕ → Remainder
read_up_to groups text = remainder_from (up_to groups) false [] (lines_of text)

-- the records of the first groups of an undo text, so many, and the fault in which they may end
abbrev pub records_up_to : List TypeRow → ℕ → List ℕ → List Answer
records_up_to rows groups text = answers_on rows (blocks_in (read_up_to groups text))

-- the marks that are passed on the way, if it ends in no fault
abbrev pub marks_up_to : ℕ → List ℕ → Option ℕ
marks_up_to groups text = marks_in (read_up_to groups text)

-- the answers of a text that ends in no fault
abbrev pub all_found : List Found → List Answer
all_found found = map (λ (f : Found). Ok f) found

-- why a text is not read whole: it ends in a fault after its records; it has too many bytes to be read at once; or memory ran
-- out, which says nothing of the text
abbrev pub EndsIn : StreamFault → List TypeRow → List ℕ → Type 0
EndsIn LineTooLong rows text = (found : List Found) × (records_of rows text ≡ all_found found ++ Err LineTooLong ∷ [])
EndsIn BadVersion rows text = (found : List Found) × (records_of rows text ≡ all_found found ++ Err BadVersion ∷ [])
EndsIn BadMark rows text = (found : List Found) × (records_of rows text ≡ all_found found ++ Err BadMark ∷ [])
EndsIn TooManyTurns rows text = 9007199254732800 < length text
EndsIn Memory rows text = Unit {0}
EndsIn Read rows text = ⊥
EndsIn Ended rows text = ⊥
