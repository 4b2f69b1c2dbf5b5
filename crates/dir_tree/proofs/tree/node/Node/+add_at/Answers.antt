use Rattle.std.proofs.Common.{◌≡◌, [], ◌∷◌, OnErr, OnOk, Ok, Err, Result, None, Some, length, take, refl, ap, subst, sym, ◌∙◌}
use Rattle.std.specs.FinMap as fin
use Rattle.dir_tree.specs.Inside.TreeAdds.{leaf_places, path_above}
use Rattle.dir_tree.specs.Inside.TreePlaces.{IsAt, IsGraft, entry_on, with_child}
use Rattle.dir_tree.proofs.TreeNodes.{child_at, graft_child, nothing_in, same_child, same_place}
use Rattle.dir_tree.proofs.tree.node.Node.+add_at.Goals as goal
use Rattle.dir_tree.proofs.tree.node.Node.+add_at.Goals.{In-Some-place}

on_ok : {A E P Q : Type 0} → (r : Result A E) → (P → Q) → OnOk r P → OnOk r Q
on_ok (Ok x) f p = f p
on_ok (Err e) f p = p

on_err : {A E P Q : Type 0} → (r : Result A E) → (P → Q) → OnErr r P → OnErr r Q
on_err (Ok x) f p = p
on_err (Err e) f p = f p

child : (t : _) (c : In-Some-place t) → IsAt c.args.self.now (c.args.first.now ∷ []) c.in-Some-place.child
child t c = child_at c.args.self.now c.args.first.now c.in-Some-place_if.place.now c.in-Some-place.child c.in-Some-place_if.ensures.some c.in-Some-place.is

pub returns-in-Some-place-clause-ok : goal.returns-in-Some-place-clause-ok
returns-in-Some-place-clause-ok t c =
    on_ok c.add_at.result
    (λ (graft : IsGraft c.in-Some-place.child (c.in-Some.second.now ∷ c.in-Some.rest.now) (fin.get (leaf_places c.args.entry)) c.add_at.new.self).
    subst (λ rest. IsGraft c.args.self.now (c.args.first.now ∷ rest) (fin.get (leaf_places c.args.entry)) (with_child c.args.self.now c.args.first.now (Some c.add_at.new.self))) (sym c.in-Some.ensures.cases.0)
    (graft_child c.args.self.now c.args.first.now c.in-Some-place.child (child t (goal.at.returns-in-Some-place-clause-ok t c).In-Some-place) (c.in-Some.second.now ∷ c.in-Some.rest.now) (fin.get (leaf_places c.args.entry)) c.add_at.new.self graft))
    c.add_at.ensures.ok

pub returns-in-Some-place-clause-err : goal.returns-in-Some-place-clause-err
returns-in-Some-place-clause-err t c =
    on_err c.add_at.result
    (λ (same : c.add_at.new.self ≡ c.in-Some-place.child).
    ap (λ n. with_child c.args.self.now c.args.first.now (Some n)) same ∙ same_child c.args.self.now c.args.first.now c.in-Some-place.child (child t (goal.at.returns-in-Some-place-clause-err t c).In-Some-place))
    c.add_at.ensures.err

pub returns-in-None-clause-err : goal.returns-in-None-clause-err
returns-in-None-clause-err t c = same_place c.args.self.now c.args.first.now c.in-Some-place_if.place.now c.in-Some-place_if.ensures.some

pub returns-in-None-clause-cause : goal.returns-in-None-clause-cause
returns-in-None-clause-cause t c =
    let nothing = nothing_in c.args.self.now c.args.first.now c.in-Some-place_if.place.now c.in-Some-place_if.ensures.some c.in-None.is in (
      refl,
      nothing c.args.rest.now,
      subst (λ rest. entry_on c.args.self.now (path_above c.args.first.now rest) ≡ None) (sym c.in-Some.ensures.cases.0) (nothing (take (length c.in-Some.rest.now) (c.in-Some.second.now ∷ c.in-Some.rest.now))),
    )
