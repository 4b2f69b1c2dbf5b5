use Rattle.std.proofs.Common.{◌≡◌, true, false, map, sym, ap, subst, ◌∙◌, ◌++◌, ◌∷◌, []}
use Rattle.std.specs.FinMap as fin
use Rattle.std.specs.List.{All}
use Rattle.dir_tree.specs.Inside.Packed.{IsPacked, packed_attribute}
use Rattle.dir_tree.proofs.PackedLists.{Added, added_common, added_own, attributes-push, packed-push}
use Rattle.dir_tree.proofs.packed.packing.Packing.with_attribute.Goals as goal
use Rattle.dir_tree.proofs.packed.packing.Packing.with_attribute.Goals.{In_ok-push, then-is_common+in_ok-common, else-is_common+in_ok-own}

added : (c : In_ok-push) → Added c.self.inside.common c.self.inside.own (fin.entries c.args.attribute.now.stored.values) c.is_common-is_common.result c.if-is_common.common.0 c.if-is_common.common.1 c.if-is_common.common.2 c.if-is_common.common.3
added c =
    let common = c.self.inside.common in
    let own = c.self.inside.own in
    let new = fin.entries c.args.attribute.now.stored.values in
    elim c.if-is_common.branch [
      | then-is_common+in_ok-common w ↦
          subst (λ b. Added common own new b c.if-is_common.common.0 c.if-is_common.common.1 c.if-is_common.common.2 c.if-is_common.common.3) (sym w.if-is_common.true)
          (subst (λ now. Added common own new true now.0 now.1 now.2 now.3) (sym w.common-is)
          (added_common common own new w.in_ok-common.common w.in_ok-common.start w.in_ok-common.end w.in_ok-common.ensures.values w.in_ok-common.ensures.start w.in_ok-common.ensures.end))
      | else-is_common+in_ok-own w ↦
          subst (λ b. Added common own new b c.if-is_common.common.0 c.if-is_common.common.1 c.if-is_common.common.2 c.if-is_common.common.3) (sym w.if-is_common.false)
          (subst (λ now. Added common own new false now.0 now.1 now.2 now.3) (sym w.common-is)
          (added_own common own new w.in_ok-own.own w.in_ok-own.start w.in_ok-own.end w.in_ok-own.ensures.values w.in_ok-own.ensures.start w.in_ok-own.ensures.end))
    ]

pub returns : goal.returns
returns c =
    let copied = c.in-Ok.ensures in
    let same : c.in-Ok.description ≡ c.description.result.now = cc in
    ap (map (packed_attribute c.if-is_common.common.0 c.if-is_common.common.1)) c.in_ok-push.ensures.items
    ∙ attributes-push c.self.inside.common c.self.inside.own c.if-is_common.common.0 c.if-is_common.common.1 _ c.args.attribute.now (added c) c.self.inside.attributes.items c.self.invariant (same ∙ c.description.ensures)
    ∙ ap (λ front. front ++ c.args.attribute.now ∷ []) c.self.view_is

pub invariant_of-result : goal.invariant_of-result
invariant_of-result c =
    subst (All (IsPacked c.if-is_common.common.0 c.if-is_common.common.1)) (sym c.in_ok-push.ensures.items)
    (packed-push c.self.inside.common c.self.inside.own c.if-is_common.common.0 c.if-is_common.common.1 _ c.args.attribute.now (added c) c.self.inside.attributes.items c.self.invariant)
