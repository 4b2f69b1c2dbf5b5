use Rattle.std.proofs.Common.{length}
use Rattle.dir_tree.proofs.tree.node.Node.+replace_at.Given as goal

abbrev pub decreases-replace_at : goal.decreases-replace_at
decreases-replace_at l = length l.path.now
