-- What contracts say of a `RecordReader`: the answers that it has still to give, and its state. The words of Reader.Answers say what
-- these mean.
use Rattle.std.specs.Prelude.{◌≡◌, ℕ, ◌+◌, ◌≤◌, List, length, Option}
use Rattle.std.specs.Io.KnownBytes.{Consumes}
use Rattle.dir_names.specs.declared.schema.TypeRow.{TypeRow}
use Rattle.dir_ldif.specs.declared.faults.StreamFault.{StreamFault}
use Rattle.dir_ldif.specs.declared.reader.RecordReader.{RecordReader}
use Rattle.dir_ldif.specs.declared.reader.Place.TheVariants.{Reading, AtEnd, Ended}
use Rattle.dir_ldif.specs.Reader.Answers.{answers_ahead, answers_left, bytes_ahead, EndsSoon, ExplainsFault, GoesOn, hand, IsInPieces, marks_left}
use Rattle.dir_ldif.specs.Records.{Found, Answer}
use Rattle.dir_ldif.specs.SoundRecords.{IsLegalFound, IsSoundFound}
pub mod Answers
pub mod Unfolding

module _ {R : Type 0} where
  -- the answers to come, where the source tells its bytes
  abbrev pub answers_to_come : (R → Option (List ℕ)) → RecordReader R → Option (List Answer)
  answers_to_come left r = answers_left r.schema.now r.core (left r.source)

  -- the answers to come where this text follows what was used up
  abbrev pub answers_to_come_with : RecordReader R → List ℕ → List Answer
  answers_to_come_with r text = answers_ahead r.schema.now r.core text

  -- the bytes in hand: they were read, and not used up yet
  abbrev pub in_hand : RecordReader R → List ℕ
  in_hand r = hand r.core

  -- the bytes of this answer were used up: whatever text follows them, it comes first
  abbrev pub UsesUp : (R → Option (List ℕ)) → Found → RecordReader R → RecordReader R → Type 0
  UsesUp left found old new = GoesOn found old.schema.now old.core new.core (left old.source) (left new.source)

  -- the read calls that are left
  abbrev pub turns_left : RecordReader R → ℕ
  turns_left r = r.core.turns

  -- the bytes that may still be used up: those in hand, and 8,192 for each read call that is left
  abbrev pub budget : RecordReader R → ℕ
  budget r = bytes_ahead r.core

  abbrev pub source_of : RecordReader R → R
  source_of r = r.source

  abbrev pub schema_of : RecordReader R → List TypeRow
  schema_of r = r.schema.now

  -- neither the end nor a fault was answered
  abbrev pub IsReading : RecordReader R → Type 0
  IsReading r = r.core.place ≡ Reading

  -- each read call, but one at the end of the source, gave a byte or more
  abbrev pub SpendsTurns : (R → Option (List ℕ)) → RecordReader R → RecordReader R → Type 0
  SpendsTurns left old new = (bytes : List ℕ) × Consumes (left old.source) (left new.source) bytes × (old.core.turns ≤ new.core.turns + length bytes)

  -- the end was answered
  abbrev pub IsAtEnd : RecordReader R → Type 0
  IsAtEnd r = r.core.place ≡ AtEnd

  -- a fault was answered
  abbrev pub IsEnded : RecordReader R → Type 0
  IsEnded r = r.core.place ≡ Ended

  -- the record that is given is legal
  abbrev pub GivesLegal : RecordReader R → Found → Type 0
  GivesLegal r found = IsLegalFound r.schema.now found

  -- the record that is given is sound
  abbrev pub GivesSound : RecordReader R → Found → Type 0
  GivesSound r found = IsSoundFound r.schema.now found

  -- the marks that were passed
  abbrev pub marks_passed : RecordReader R → ℕ
  marks_passed r = r.core.unfolder.marks.passed

  -- the marks that are passed at the end, where the source tells its bytes, if that is no fault
  abbrev pub marks_at_end : (R → Option (List ℕ)) → RecordReader R → Option ℕ
  marks_at_end left r = marks_left r.core (left r.source)

  -- why no further answer is given
  abbrev pub StopsFor : (R → Option (List ℕ)) → (R → ℕ) → StreamFault → RecordReader R → RecordReader R → Type 0
  StopsFor left failures fault old new = ExplainsFault fault old.schema.now old.core (left old.source) (left new.source) (failures old.source) (failures new.source)

  -- each read call gave at most 8,192 bytes
  abbrev pub ReadsPieces : (R → Option (List ℕ)) → RecordReader R → RecordReader R → Type 0
  ReadsPieces left old new = IsInPieces old.core new.core (left old.source) (left new.source)

  -- at `LineTooLong` the bytes that were read are a text in which no line is too long, and at most 8,192 bytes more
  abbrev pub StopsSoonFor : (R → Option (List ℕ)) → StreamFault → RecordReader R → RecordReader R → Type 0
  StopsSoonFor left fault old new = EndsSoon fault old.schema.now old.core (left old.source) (left new.source)
