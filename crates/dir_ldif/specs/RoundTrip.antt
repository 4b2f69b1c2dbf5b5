-- What is written reads back.
use Rattle.std.specs.Prelude.{◌≡◌, ℕ, ◌≤◌, Bool, true, false, ◌||◌, ◌==◌, List, [], ◌∷◌, ◌++◌, length, map, codes, Result, Ok, Err}
use Rattle.std.specs.List.{flat_map, list_any}
use Rattle.base64.specs.GeneralPurpose.{IsBytes}
use Rattle.dir_names.specs.declared.schema.TypeRow.{TypeRow}
use Rattle.dir_ldif.specs.declared.faults.RecordFault.{RecordFault}
use Rattle.dir_ldif.specs.declared.faults.StreamFault.{StreamFault}
use Rattle.dir_ldif.specs.declared.records.Record.{Record}
use Rattle.dir_ldif.specs.Bytes.{is_line_break}
use Rattle.dir_ldif.specs.LogicalLines.{lines_of}
use Rattle.dir_ldif.specs.AttrVal.{attrval_of}
use Rattle.dir_ldif.specs.Records.{Answer, records_of}
use Rattle.dir_ldif.specs.RecordText.{record_text_of}
use Rattle.dir_ldif.specs.LineText.{line_of, written_line}
use Rattle.dir_ldif.specs.LegalRecords.{is_legal_record}
use Rattle.dir_ldif.specs.SoundRecords.{AreLegalAndSound}
use Rattle.dir_names.specs.Ascii.{colon}

-- what the name of a line may not contain, since it would end there: a colon, LF and CR
abbrev pub ends_name : ℕ → Bool
ends_name b = b == colon || is_line_break b

-- a written line, folded or not, is one logical line, and has the name and the value that were written
abbrev pub WrittenLineReadsBack : Type 0
WrittenLineReadsBack = (b : ℕ) (name value : List ℕ) → list_any ends_name (b ∷ name) ≡ false → IsBytes value → length value ≤ 1048576
    → (lines_of (written_line (b ∷ name) value) ≡ (1, line_of (b ∷ name) value) ∷ []) × (attrval_of (line_of (b ∷ name) value) ≡ Ok (b ∷ name, value))

-- ---- records

-- an answer without its line
abbrev pub without_line : Answer → Result (Result Record RecordFault) StreamFault
without_line (Ok found) = Ok found.1
without_line (Err fault) = Err fault

abbrev pub records_text : List Record → List ℕ
records_text records = flat_map record_text_of records

-- the text has this one record, under each schema under which the record is legal
abbrev pub ReadsBackAs : List ℕ → Record → Type 0
ReadsBackAs text r = (rows : List TypeRow) → is_legal_record rows r ≡ true → map without_line (records_of rows text) ≡ Ok (Ok r) ∷ []

-- legal and sound records, written one after the other, read back as they are, with or without a version line before them
abbrev pub RecordsReadBack : Type 0
RecordsReadBack = (rows : List TypeRow) (records : List Record) → AreLegalAndSound rows records
    → (map without_line (records_of rows (records_text records)) ≡ map (λ (r : Record). Ok (Ok r)) records)
    × (map without_line (records_of rows (codes "version: 1\n\n" ++ records_text records)) ≡ map (λ (r : Record). Ok (Ok r)) records)
