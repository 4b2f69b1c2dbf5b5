use Rattle.std.proofs.Common.{◌≡◌, [], ◌∷◌, OnErr, OnOk, Ok, Err, Result, Some, is_some, length, take, true, ap, subst, sym, ◌∙◌}
use Rattle.std.specs.FinMap as fin
use Rattle.dir_tree.specs.Inside.TreePlaces.{IsAt, IsGraft, entry_on, node_map, place_map, with_child}
use Rattle.dir_tree.proofs.Climb.{given}
use Rattle.dir_tree.proofs.TreeNodes.{child_at, filled_place, graft_child, has_place, no_length, place_changed, same_child}
use Rattle.dir_tree.proofs.tree.node.Node.+grow_at.Goals as goal
use Rattle.dir_tree.proofs.tree.node.Node.+grow_at.Goals.{In-Some, After-node_in}

on_ok : {A E P Q : Type 0} → (r : Result A E) → (P → Q) → OnOk r P → OnOk r Q
on_ok (Ok x) f p = f p
on_ok (Err e) f p = p

on_err : {A E P Q : Type 0} → (r : Result A E) → (P → Q) → OnErr r P → OnErr r Q
on_err (Ok x) f p = p
on_err (Err e) f p = f p

parent : (t : _) (c : In-Some t) → is_some (entry_on c.args.self.now (c.args.first.now ∷ take (length c.in-Some.rest.now) (c.in-Some.second.now ∷ c.in-Some.rest.now))) ≡ true
parent t c = subst (λ path. is_some (entry_on c.args.self.now (take (length path) (c.args.first.now ∷ path))) ≡ true) c.in-Some.ensures.cases.0 c.requires

child : (t : _) (c : After-node_in t) → IsAt c.args.self.now (c.args.first.now ∷ []) c.node_in.result.now
child t c = child_at c.args.self.now c.args.first.now c.place.result.now c.node_in.result.now c.place.ensures.is c.node_in.ensures.is

pub place-requires : goal.place-requires
place-requires t c = has_place c.args.self.now c.args.first.now (take (length c.in-Some.rest.now) (c.in-Some.second.now ∷ c.in-Some.rest.now)) (parent t (goal.at.place-requires t c).In-Some)

pub node_in-requires : goal.node_in-requires
node_in-requires t c = filled_place c.args.self.now c.args.first.now c.place.result.now c.place.ensures.is (take (length c.in-Some.rest.now) (c.in-Some.second.now ∷ c.in-Some.rest.now)) (parent t (goal.at.node_in-requires t c).In-Some)

pub returns-in-Some-clause-ok : goal.returns-in-Some-clause-ok
returns-in-Some-clause-ok t c =
    on_ok c.grow_at.result
    (λ (graft : IsGraft c.node_in.result.now (c.in-Some.second.now ∷ c.in-Some.rest.now) (fin.get (place_map c.args.place)) c.grow_at.new.self).
    subst (λ rest. IsGraft c.args.self.now (c.args.first.now ∷ rest) (fin.get (place_map c.args.place)) (with_child c.args.self.now c.args.first.now (Some c.grow_at.new.self))) (sym c.in-Some.ensures.cases.0)
    (graft_child c.args.self.now c.args.first.now c.node_in.result.now (child t (goal.at.returns-in-Some-clause-ok t c).After-node_in) (c.in-Some.second.now ∷ c.in-Some.rest.now) (fin.get (place_map c.args.place)) c.grow_at.new.self graft))
    c.grow_at.ensures.ok

pub returns-in-Some-clause-err : goal.returns-in-Some-clause-err
returns-in-Some-clause-err t c =
    on_err c.grow_at.result
    (λ (same : c.grow_at.new.self ≡ c.node_in.result.now).
    ap (λ n. with_child c.args.self.now c.args.first.now (Some n)) same ∙ same_child c.args.self.now c.args.first.now c.node_in.result.now (child t (goal.at.returns-in-Some-clause-err t c).After-node_in))
    c.grow_at.ensures.err

pub returns-in-Ok-insert-clause-ok : goal.returns-in-Ok-insert-clause-ok
returns-in-Ok-insert-clause-ok t c =
    let same : c.args.first.now ≡ c.in-Ok.part = given c.in-Ok.ensures in
    subst (λ rest. IsGraft c.args.self.now (c.args.first.now ∷ rest) (fin.get (place_map c.args.place)) (node_map c.self.inside.entry c.insert.new.self.entries)) (sym (no_length c.args.rest.now c.in-None.ensures.cases))
    (subst (λ x. IsGraft c.args.self.now (x ∷ []) (fin.get (place_map c.args.place)) (node_map c.self.inside.entry c.insert.new.self.entries)) (sym same)
    (subst (λ m. IsGraft m (c.in-Ok.part ∷ []) (fin.get (place_map c.args.place)) (node_map c.self.inside.entry c.insert.new.self.entries)) c.self.view_is
    (place_changed c.self.inside.entry c.self.inside.children.entries c.insert.new.self.entries c.self.invariant c.in-Ok-insert.ensures.ordered c.in-Ok.part (Some c.args.place) c.in-Ok-insert.ensures.updates.0)))
