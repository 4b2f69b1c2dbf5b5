use Rattle.dir_change.proofs.TakenBack.{taken_back}
use Rattle.dir_change.proofs.laws.runs_are_taken_back.Goals as goal

pub returns : goal.returns
returns c = taken_back
