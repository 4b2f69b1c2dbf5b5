use Rattle.dir_tools.proofs.AcceptedRuns.{undos_law}
use Rattle.dir_tools.proofs.laws.groups_are_undos.Goals as goal

pub returns : goal.returns
returns c = undos_law c.groups_undo_changes.ensures c.runs_stay_in_order.ensures
