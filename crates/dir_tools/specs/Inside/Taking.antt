-- The view of `take_records`: the records of a text, taken one after the other. No public contract needs this file.
use Rattle.std.specs.Prelude.{◌≡◌, ℕ, ⊤, Bool, true, false, List, [], ◌∷◌, ◌++◌, Option, Result, Ok, Err, IfSome}
use Rattle.dir_names.specs.declared.schema.TypeRow.{TypeRow}
use Rattle.dir_ldif.specs.Device.{HasFailed}
use Rattle.dir_ldif.specs.declared.faults.StreamFault.{StreamFault}
use Rattle.dir_ldif.specs.declared.faults.StreamFault.TheVariants as stream
use Rattle.dir_ldif.specs.declared.reader.RecordReader.{RecordReader}
use Rattle.dir_ldif.specs.Reader.{answers_to_come, marks_at_end, marks_passed, source_of, turns_left}
use Rattle.dir_ldif.specs.Records.{Answer, Found, all_found}
use Rattle.dir_ldif.specs.SoundRecords.{IsSoundFound}
use Rattle.dir_tools.specs.CompleteRecords.{AreComplete, GaveBytesTo}
use Rattle.dir_tools.specs.ReadCalls.{GaveAtLeast}
use Rattle.dir_tools.specs.declared.fault.ToolFault.{ToolFault}
use Rattle.dir_tools.specs.declared.taking.End.{End}
use Rattle.dir_tools.specs.declared.taking.End.TheVariants as end

module _ {T : Type 0} (rows : List TypeRow) (take_gives : Found → T → Result Bool ToolFault → T → Type 0) where
  -- these sound records are taken, and after each more are wanted
  abbrev pub TakesAll : List Found → T → T → Type 0
  TakesAll [] old new = old ≡ new
  TakesAll (found ∷ founds) old new = (next : T) × IsSoundFound rows found × take_gives found old (Ok true) next × TakesAll founds next new

  -- some records are taken, and the next one, which is sound, gives this last answer; the known answers begin with these
  abbrev pub TakesUpTo : Result Bool ToolFault → Option (List Answer) → T → T → Type 0
  TakesUpTo last answers old new =
      (founds : List Found) × (found : Found) × (between : T) × TakesAll founds old between × take_gives found between last new × IsSoundFound rows found
      × IfSome answers (λ known. (rest : List Answer) × (known ≡ all_found founds ++ Ok found ∷ rest))

  -- the complete records of a text are taken
  abbrev pub TakesComplete : T → (List ℕ → List Answer) → Type 0
  TakesComplete old answers = (founds : List Found) → AreComplete answers founds → (between : T) × TakesAll founds old between

  module _ {S : Type 0} (left : S → Option (List ℕ)) (failures : S → ℕ) where
    -- the text ends in this fault after these records; or its reader failed or had no read call left, and the complete records
    -- among the bytes that it gave were taken
    abbrev pub BreaksAfter : List Found → StreamFault → T → RecordReader S → RecordReader S → Type 0
    BreaksAfter founds stream.LineTooLong old first now = IfSome (answers_to_come left first) (λ known. known ≡ all_found founds ++ Err stream.LineTooLong ∷ [])
    BreaksAfter founds stream.BadVersion old first now = IfSome (answers_to_come left first) (λ known. known ≡ all_found founds ++ Err stream.BadVersion ∷ [])
    BreaksAfter founds stream.BadMark old first now = IfSome (answers_to_come left first) (λ known. known ≡ all_found founds ++ Err stream.BadMark ∷ [])
    BreaksAfter founds stream.Read old first now = HasFailed (failures (source_of first)) (failures (source_of now)) × GaveBytesTo left first now (TakesComplete old)
    BreaksAfter founds stream.TooManyTurns old first now =
        GaveAtLeast (left (source_of first)) (left (source_of now)) (turns_left first) × GaveBytesTo left first now (TakesComplete old)
    BreaksAfter founds stream.Memory old first now = ⊤
    BreaksAfter founds stream.Ended old first now = ⊥

    -- why no further record was taken, and which were
    abbrev pub EndsIn : End → T → T → RecordReader S → RecordReader S → Type 0
    EndsIn end.AtEnd old new first now =
        (failures (source_of now) ≡ failures (source_of first))
        × ((founds : List Found) × TakesAll founds old new × IfSome (answers_to_come left first) (λ known. known ≡ all_found founds))
        × IfSome (marks_at_end left first) (λ n. marks_passed now ≡ n)
    EndsIn end.Enough old new first now = (failures (source_of now) ≡ failures (source_of first)) × TakesUpTo (Ok false) (answers_to_come left first) old new
    EndsIn (end.TakeFault fault) old new first now = TakesUpTo (Err fault) (answers_to_come left first) old new
    EndsIn (end.TextFault fault) old new first now = (founds : List Found) × TakesAll founds old new × BreaksAfter founds fault old first now
