use Rattle.std.proofs.Common.{length}
use Rattle.dir_tree.proofs.tree.node.Node.+put_at.Given as goal

abbrev pub decreases-put_at : goal.decreases-put_at
decreases-put_at l = length l.rest.now
