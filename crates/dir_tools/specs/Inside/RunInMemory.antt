-- The view of `RunInMemory`: what a run wrote into memory. No public contract needs this file.
use Rattle.std.specs.Prelude.{◌≡◌, ℕ, List, Ok}
use Rattle.dir_tools.specs.declared.round_trip.RunInMemory as memory
use Rattle.dir_tools.specs.Headline.{RunTerms, RunOutput, output_of}

-- the run has an output, and this is it
pub record IsRunInMemory (q : RunTerms) (copy changes : List ℕ) (ran : memory.RunInMemory) : Type 0 where
  pub output : RunOutput
  pub runs : output_of q copy changes ≡ Ok output
  pub undo : ran.undo.items ≡ output.texts.undo
  pub out : ran.out.items ≡ output.texts.out
  pub summary : ran.summary ≡ output.summary
