use Rattle.dir_change.proofs.Undoing.{groups_undo}
use Rattle.dir_change.proofs.laws.groups_undo_changes.Goals as goal

pub returns : goal.returns
returns c = groups_undo
