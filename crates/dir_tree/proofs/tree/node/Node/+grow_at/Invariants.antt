use Rattle.std.proofs.Common.{length}
use Rattle.dir_tree.proofs.tree.node.Node.+grow_at.Given as goal

abbrev pub decreases-grow_at : goal.decreases-grow_at
decreases-grow_at l = length l.rest.now
