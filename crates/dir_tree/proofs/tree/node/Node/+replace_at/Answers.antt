use Rattle.std.proofs.Common.{◌≡◌, true, [], ◌∷◌, Some, is_some, ap, subst, sym, ◌∙◌}
use Rattle.std.specs.FinMap as fin
use Rattle.dir_tree.specs.Inside.TreePlaces.{IsAt, entry_on, with_child}
use Rattle.dir_tree.proofs.TreeNodes.{child_at, filled_place, has_place, insert_child}
use Rattle.dir_tree.proofs.tree.node.Node.+replace_at.Goals as goal
use Rattle.dir_tree.proofs.tree.node.Node.+replace_at.Goals.{In-Some}

there : (t : _) (c : In-Some t) → is_some (entry_on c.args.self.now (c.in-Some.first.now ∷ c.in-Some.rest.now)) ≡ true
there t c = subst (λ path. is_some (entry_on c.args.self.now path) ≡ true) c.in-Some.ensures.cases.0 c.requires

pub place-requires : goal.place-requires
place-requires t c = has_place c.args.self.now c.in-Some.first.now c.in-Some.rest.now (there t (goal.at.place-requires t c).In-Some)

pub node_in-requires : goal.node_in-requires
node_in-requires t c = filled_place c.args.self.now c.in-Some.first.now c.place.result.now c.place.ensures.is c.in-Some.rest.now (there t (goal.at.node_in-requires t c).In-Some)

pub returns-in-Some-clause-new : goal.returns-in-Some-clause-new
returns-in-Some-clause-new t c =
    let child : IsAt c.args.self.now (c.in-Some.first.now ∷ []) c.node_in.result.now = child_at c.args.self.now c.in-Some.first.now c.place.result.now c.node_in.result.now c.place.ensures.is c.node_in.ensures.is in
    ap (λ m. with_child c.args.self.now c.in-Some.first.now (Some m)) c.replace_at.ensures.new
    ∙ insert_child c.args.self.now c.in-Some.first.now c.node_in.result.now child c.in-Some.rest.now (Some c.args.entry)
    ∙ ap (λ path. fin.insert c.args.self.now path (Some c.args.entry)) (sym c.in-Some.ensures.cases.0)
