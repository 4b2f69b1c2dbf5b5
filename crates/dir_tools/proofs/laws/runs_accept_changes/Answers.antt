use Rattle.dir_tools.proofs.AcceptedRuns.{runs_accept}
use Rattle.dir_tools.proofs.laws.runs_accept_changes.Goals as goal

pub returns : goal.returns
returns c = runs_accept
