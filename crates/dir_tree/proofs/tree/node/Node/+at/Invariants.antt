use Rattle.std.proofs.Common.{length}
use Rattle.dir_tree.proofs.tree.node.Node.+at.Given as goal

abbrev pub decreases-at : goal.decreases-at
decreases-at l = length l.path.now
