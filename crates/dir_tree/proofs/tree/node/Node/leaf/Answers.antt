use Rattle.dir_tree.proofs.TreeNodes.{leaf_map}
use Rattle.dir_tree.proofs.tree.node.Node.leaf.Goals as goal

pub invariant_of-result : goal.invariant_of-result
invariant_of-result c = c.new.ensures.ordered

pub returns : goal.returns
returns c = leaf_map c.args.entry c.new.result.entries c.new.ensures.ordered c.new.ensures.empty
