use Rattle.std.proofs.Common.{length}
use Rattle.dir_tree.proofs.tree.node.Node.+push_name.Given as goal

abbrev pub decreases-push_name : goal.decreases-push_name
decreases-push_name l = length l.path.now
