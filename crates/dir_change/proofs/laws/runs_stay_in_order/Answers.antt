use Rattle.dir_change.proofs.InOrder.{runs_stay}
use Rattle.dir_change.proofs.laws.runs_stay_in_order.Goals as goal

pub returns : goal.returns
returns c = runs_stay
