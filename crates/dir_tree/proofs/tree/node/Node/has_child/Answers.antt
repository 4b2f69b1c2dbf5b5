use Rattle.std.proofs.Common.{◌≡◌, [], ◌∷◌, Some, is_some, refl, sym, ap, subst, ◌∙◌}
use Rattle.std.specs.FinMap as fin
use Rattle.std.specs.FinMap.{find}
use Rattle.dir_names.specs.Keys.{RdnKeys}
use Rattle.dir_names.specs.Orders.{rdn_key_cmp}
use Rattle.dir_tree.specs.WellFormed.{Each}
use Rattle.dir_tree.specs.Inside.TreePlaces.{IsAt, entry_in, entry_on}
use Rattle.dir_tree.proofs.TreeChildren.{IsChildOf, all_listed, children_of, first_listed, none_in_place, other_children, this_child}
use Rattle.dir_tree.proofs.TreeNodes.{child_at, get_root}
use Rattle.dir_tree.proofs.tree.node.Node.has_child.Goals as goal

pub loop-place-init : goal.loop-place-init
loop-place-init c =
    let all : c.into_iter-place-iterator.result ≡ c.self.inside.children.entries = c.into_iter-place-iterator.ensures.into_iter_gives.0 in
    record {
      listed = λ x there. ap (λ cs. is_some (find rdn_key_cmp x cs)) all ∙ all_listed c.self.inside.entry c.self.inside.children.entries c.self.invariant x [] (ap (λ m. is_some (entry_on m (x ∷ []))) c.self.view_is ∙ there);
      each = subst (Each (IsChildOf c.args.self.now)) (sym all) (subst (λ m. Each (IsChildOf m) c.self.inside.children.entries) c.self.view_is (children_of c.self.inside.entry c.self.inside.children.entries c.self.invariant));
    }

pub returns-in-Some-place : goal.returns-in-Some-place
returns-in-Some-place c =
    let k : RdnKeys = c.in-Some.field-0-0.now in
    let here = this_child c.args.self.now c.loop-place.place-iterator k c.in-Some.place.now c.next.new.self c.in-Some.ensures.steps c.loop-place.invariant.each in
    let child : IsAt c.args.self.now (k ∷ []) c.in-Some-place.child = child_at c.args.self.now k c.in-Some.place.now c.in-Some-place.child here.0 c.in-Some-place.is in
    let root : fin.get c.in-Some-place.child [] ≡ Some (Some c.child.inside.entry) = ap (λ m. fin.get m []) (sym c.child.view_is) ∙ get_root c.child.inside.entry c.child.inside.children.entries c.child.invariant in
    (λ _. (k, ap (λ o. is_some (entry_in o)) (sym (child []) ∙ root)), λ _. refl)

pub loop-place-preserved : goal.loop-place-preserved
loop-place-preserved c =
    let k : RdnKeys = c.in-Some.field-0-0.now in
    let here = this_child c.args.self.now c.loop-place.place-iterator k c.in-Some.place.now c.next.new.self c.in-Some.ensures.steps c.loop-place.invariant.each in
    record {
      listed = λ x there.
          first_listed (k, c.in-Some.place.now) c.next.new.self x (ap (λ cs. is_some (find rdn_key_cmp x cs)) (sym c.in-Some.ensures.steps) ∙ c.loop-place.invariant.listed x there)
          (λ same. absurd (none_in_place c.args.self.now k c.in-Some.place.now here.0 c.in_default.is [] (ap (λ z. is_some (entry_on c.args.self.now (z ∷ []))) (sym same) ∙ there)))
          (λ later. later);
      each = other_children c.args.self.now c.loop-place.place-iterator k c.in-Some.place.now c.next.new.self c.in-Some.ensures.steps c.loop-place.invariant.each;
    }
