use Rattle.dir_tree.proofs.NewEntryHolds.{entries_hold}
use Rattle.dir_tree.proofs.laws.entries_hold_their_lines.Goals as goal

pub returns : goal.returns
returns c = entries_hold
