-- A run there and back in memory: what it gives, and the faults that it comes to.
use Rattle.std.specs.Prelude.{◌≡◌, ◌⊎◌, ℕ, ⊤, List, None, Ok, Err}
use Rattle.dir_ldif.specs.declared.faults.StreamFault.TheVariants as stream
use Rattle.dir_tools.specs.declared.fault.Cause.TheVariants as cause
use Rattle.dir_tools.specs.declared.fault.ToolFault.{ToolFault}
use Rattle.dir_tools.specs.declared.fault.ToolFault.TheVariants as tool
use Rattle.dir_tools.specs.declared.round_trip.RoundTrip as trips
use Rattle.dir_tools.specs.Headline.{RunTerms, RunOutput, output_of, terms}
use Rattle.dir_tools.specs.ReadCalls.{FillsReadCalls}

-- the same over the whole of a text of changes
abbrev pub over_all : RunTerms → RunTerms
over_all q = terms q.rows q.suffix (record q.options { last = None })

-- both runs have an output. Of the run there these are the numbers; of the run back, over what that one wrote, the numbers and the new copy
pub record IsRoundTrip (q : RunTerms) (copy changes : List ℕ) (trip : trips.RoundTrip) : Type 0 where
  pub there : RunOutput
  pub back : RunOutput
  pub runs_there : output_of q copy changes ≡ Ok there
  pub runs_back : output_of (over_all q) there.texts.out there.texts.undo ≡ Ok back
  pub numbers_there : trip.there ≡ there.summary
  pub numbers_back : trip.back ≡ back.summary
  pub copy_back : trip.copy.items ≡ back.texts.out

-- a fault for which no record is to blame: memory ran out, also for a text that was being written into it; or a text has a byte or more for
-- each read call of a reader
abbrev pub StopsInMemory : List ℕ → List ℕ → ToolFault → Type 0
StopsInMemory copy changes tool.Memory = ⊤
StopsInMemory copy changes (tool.Write to) = ⊤
StopsInMemory copy changes (tool.BadCopy line (cause.Ended stream.TooManyTurns)) = FillsReadCalls copy
StopsInMemory copy changes (tool.BadChanges stream.TooManyTurns) = FillsReadCalls changes
StopsInMemory copy changes fault = ⊥

-- the fault of a run in memory: the one that its texts have, or one of those
abbrev pub IsFaultThere : RunTerms → List ℕ → List ℕ → ToolFault → Type 0
IsFaultThere q copy changes fault = (output_of q copy changes ≡ Err fault) ⊎ StopsInMemory copy changes fault

-- the run there had an output, and over its texts, which have no fault, the run back came to one of those
pub record IsFaultBack (q : RunTerms) (copy changes : List ℕ) (fault : ToolFault) : Type 0 where
  pub there : RunOutput
  pub runs_there : output_of q copy changes ≡ Ok there
  pub stops : StopsInMemory there.texts.out there.texts.undo fault

abbrev pub IsRoundTripFault : RunTerms → List ℕ → List ℕ → ToolFault → Type 0
IsRoundTripFault q copy changes fault = IsFaultThere q copy changes fault ⊎ IsFaultBack q copy changes fault
