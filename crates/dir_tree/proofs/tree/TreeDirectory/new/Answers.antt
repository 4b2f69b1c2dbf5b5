use Rattle.dir_tree.proofs.DirLemmas.{closed_empty}
use Rattle.dir_tree.proofs.MoveLemmas.{shallow_empty}
use Rattle.dir_tree.proofs.tree.TreeDirectory.new.Goals as goal

pub invariant_of-result : goal.invariant_of-result
invariant_of-result c = record { closed = closed_empty c.args.suffix; shallow = shallow_empty c.args.suffix; filled = tt }
