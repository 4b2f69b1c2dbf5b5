use Rattle.std.proofs.Common.{[], ◌∷◌, Some, is_some, ap, subst, sym, ◌∙◌}
use Rattle.std.specs.FinMap as fin
use Rattle.dir_tree.specs.Inside.TreePlaces.{IsAt, IsGraft, with_child}
use Rattle.dir_tree.proofs.TreeNodes.{child_at, get_with_child, graft_child, no_length, parent_place}
use Rattle.dir_tree.proofs.tree.node.Node.+put_at.Goals as goal

pub place-requires : goal.place-requires
place-requires t c = (c.args.rest.now, ap is_some c.requires)

pub node_in-requires : goal.node_in-requires
node_in-requires t c =
    parent_place c.args.self.now c.args.first.now c.place.result.now c.place.ensures.is c.in-Some.second.now c.in-Some.rest.now
    (ap (λ rest. is_some (fin.get c.args.self.now (c.args.first.now ∷ rest))) (sym c.in-Some.ensures.cases.0) ∙ ap is_some c.requires)

pub returns-in-Some : goal.returns-in-Some
returns-in-Some t c =
    let child : IsAt c.args.self.now (c.args.first.now ∷ []) c.node_in.result.now = child_at c.args.self.now c.args.first.now c.place.result.now c.node_in.result.now c.place.ensures.is c.node_in.ensures.is in
    subst (λ rest. IsGraft c.args.self.now (c.args.first.now ∷ rest) (fin.get c.args.node) (with_child c.args.self.now c.args.first.now (Some c.put_at.new.self))) (sym c.in-Some.ensures.cases.0)
    (graft_child c.args.self.now c.args.first.now c.node_in.result.now child (c.in-Some.second.now ∷ c.in-Some.rest.now) (fin.get c.args.node) c.put_at.new.self c.put_at.ensures)

pub returns-in-None : goal.returns-in-None
returns-in-None t c =
    subst (λ rest. IsGraft c.args.self.now (c.args.first.now ∷ rest) (fin.get c.args.node) (with_child c.args.self.now c.args.first.now (Some c.args.node))) (sym (no_length c.args.rest.now c.in-None.ensures.cases))
    (get_with_child c.args.self.now c.args.first.now (Some c.args.node))
