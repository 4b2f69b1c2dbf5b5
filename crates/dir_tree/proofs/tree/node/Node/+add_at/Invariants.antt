use Rattle.std.proofs.Common.{length}
use Rattle.dir_tree.proofs.tree.node.Node.+add_at.Given as goal

abbrev pub decreases-add_at : goal.decreases-add_at
decreases-add_at l = length l.rest.now
