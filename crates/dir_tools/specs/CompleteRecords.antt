-- The complete records among the bytes that a reader gave before reading failed.
use Rattle.std.specs.Prelude.{◌≡◌, ℕ, List, [], ◌∷◌, ◌++◌, Option, Ok, ⊤}
use Rattle.std.specs.Io.KnownBytes.{Consumes}
use Rattle.dir_names.specs.declared.schema.TypeRow.{TypeRow}
use Rattle.dir_ldif.specs.declared.faults.StreamFault.TheVariants as stream
use Rattle.dir_ldif.specs.declared.reader.RecordReader.{RecordReader}
use Rattle.dir_ldif.specs.declared.records.Change.{Change}
use Rattle.dir_ldif.specs.Reader.{answers_to_come_with, in_hand, source_of}
use Rattle.dir_ldif.specs.Records.{Answer, Found, all_found, records_of}
use Rattle.dir_tree.specs.Dir.{Dir}
use Rattle.dir_tools.specs.declared.fault.Cause.TheVariants as cause
use Rattle.dir_tools.specs.declared.fault.ToolFault.{ToolFault}
use Rattle.dir_tools.specs.declared.fault.ToolFault.TheVariants as tool
use Rattle.dir_tools.specs.CopyOf.{LoadedCopy, with_records}
use Rattle.dir_tools.specs.RunOf.{record_step, records_at}

-- a reader failed, or had no read call left
abbrev pub IsReaderFault : ToolFault → Type 0
IsReaderFault (tool.Read input) = ⊤
IsReaderFault (tool.BadCopy line (cause.Ended stream.TooManyTurns)) = ⊤
IsReaderFault (tool.BadChanges stream.TooManyTurns) = ⊤
IsReaderFault fault = ⊥

-- these records are complete: whatever text follows, the answers begin with them
abbrev pub AreComplete : (List ℕ → List Answer) → List Found → Type 0
AreComplete answers founds = (text : List ℕ) → (rest : List Answer) × (answers text ≡ all_found founds ++ rest)

-- the source gave these bytes
abbrev pub GaveBytes : Option (List ℕ) → Option (List ℕ) → (List ℕ → Type 0) → Type 0
GaveBytes left left' P = (bytes : List ℕ) × Consumes left left' bytes × P bytes

-- the answers on these bytes and the text that follows them
abbrev pub answers_after : List TypeRow → List ℕ → List ℕ → List Answer
answers_after rows bytes text = records_of rows (bytes ++ text)

-- the same of a text of changes, of which all records are taken, or those of its first groups
abbrev pub changes_after : List TypeRow → Option ℕ → List ℕ → List ℕ → List Answer
changes_after rows last bytes text = records_at rows last (bytes ++ text)

-- the complete records of a copy are taken in, one after the other
abbrev pub CompleteRecordsLoad : List TypeRow → LoadedCopy → (List ℕ → List Answer) → Type 0
CompleteRecordsLoad rows start answers = (founds : List Found) → AreComplete answers founds → (l : LoadedCopy) × (with_records rows start (all_found founds) ≡ Ok l)

-- each of the records is accepted, and they lead from one directory to the other
abbrev pub AcceptsTo : List TypeRow → Dir → List Found → Dir → Type 0
AcceptsTo rows d [] end = d ≡ end
AcceptsTo rows d (found ∷ founds) end = (next : Dir) × (group : List Change) × (record_step rows d found.1 ≡ Ok (next, group)) × AcceptsTo rows next founds end

-- the complete records of a text of changes are accepted, one after the other
abbrev pub CompleteRecordsAreAccepted : List TypeRow → Dir → (List ℕ → List Answer) → Type 0
CompleteRecordsAreAccepted rows d answers = (founds : List Found) → AreComplete answers founds → (end : Dir) × AcceptsTo rows d founds end

module _ {S : Type 0} where
  -- the same of the bytes that a reader had in hand and those that its source gave it
  abbrev pub GaveBytesTo : (S → Option (List ℕ)) → RecordReader S → RecordReader S → ((List ℕ → List Answer) → Type 0) → Type 0
  GaveBytesTo left old new P = GaveBytes (left (source_of old)) (left (source_of new)) (λ bytes. P (λ text. answers_to_come_with old (in_hand old ++ (bytes ++ text))))
