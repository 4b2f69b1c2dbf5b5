use Rattle.std.proofs.Common.{[], Some, ap, sym, ◌∙◌}
use Rattle.std.specs.FinMap as fin
use Rattle.dir_tree.specs.Inside.TreePlaces.{node_map}
use Rattle.dir_tree.proofs.TreeNodes.{get_root, root_written}
use Rattle.dir_tree.proofs.tree.node.Node.exchange.Goals as goal

pub returns-clause-old : goal.returns-clause-old
returns-clause-old c =
    ap (λ m. fin.get m []) (sym c.self.view_is) ∙ get_root c.self.inside.entry c.self.inside.children.entries c.self.invariant ∙ ap (λ e. Some (Some e)) (sym c.replace.ensures.value)

pub returns-clause-new : goal.returns-clause-new
returns-clause-new c =
    ap (λ e. node_map e c.self.inside.children.entries) c.replace.ensures.after
    ∙ root_written c.self.inside.entry c.args.entry c.self.inside.children.entries c.self.invariant
    ∙ ap (λ m. fin.insert m [] (Some c.args.entry)) c.self.view_is
