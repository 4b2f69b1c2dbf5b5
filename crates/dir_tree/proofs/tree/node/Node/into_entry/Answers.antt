use Rattle.std.proofs.Common.{[], ap, sym, ◌∙◌}
use Rattle.std.specs.FinMap as fin
use Rattle.dir_tree.proofs.TreeNodes.{get_root}
use Rattle.dir_tree.proofs.tree.node.Node.into_entry.Goals as goal

pub returns : goal.returns
returns c = ap (λ m. fin.get m []) (sym c.self.view_is) ∙ get_root c.self.inside.entry c.self.inside.children.entries c.self.invariant
