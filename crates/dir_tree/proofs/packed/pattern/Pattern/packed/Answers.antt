use Rattle.std.proofs.Common.{◌≡◌, ◌+◌, [], ◌++◌, ◌∷◌, map, length, take, IsTrue, sym, ap, subst, ◌∙◌, arith, rules}
use Rattle.std.proofs.lemmas.List.{take_all, take_more, take-append-drop}
use Rattle.dir_names.specs.Orders.{attr_cmp}
use Rattle.dir_names.specs.Sorted.{rises}
use Rattle.dir_tree.specs.Inside.Packed.{packed_attribute}
use Rattle.dir_tree.specs.Inside.Patterns.{Gathers}
use Rattle.dir_tree.specs.Inside.Stored.{attributes_rise}
use Rattle.dir_tree.proofs.PatternLines.{gathers_all, gathers_common, gathers_none, gathers_own, keys-attributes, nil_of}
use Rattle.dir_tree.proofs.packed.pattern.Pattern.packed.Goals as goal
use Rattle.dir_tree.proofs.packed.pattern.Pattern.packed.Goals.{then-attribute+in_ok-common, else-attribute+in_ok-own}

pub loop-attribute-init : goal.loop-attribute-init
loop-attribute-init c =
    subst (λ rest. Gathers c.args.schema.now c.args.lines.now c.args.self.now.order.items rest [] c.in-Ok.common c.in-Ok-with_room.own) (sym c.as_slice-rest.ensures.value)
    (gathers_none c.args.schema.now c.args.lines.now c.args.self.now.order.items c.in-Ok.common c.in-Ok-with_room.own c.in-Ok.ensures c.in-Ok-with_room.ensures)

pub loop-attribute-preserved : goal.loop-attribute-preserved
loop-attribute-preserved c =
    let rows = c.args.schema.now in
    let lines = c.args.lines.now in
    let order = c.args.self.now.order.items in
    let items = c.as_slice-attribute-items.result.now in
    let i = c.loop-attribute.attribute-index in
    let a = c.attribute-item.result in
    let rest = c.loop-attribute.rest.now in
    let taken = c.in_ok-taken.taken.now in
    let after = c.in_ok-taken.after.now in
    let common = c.loop-attribute.common in
    let own = c.loop-attribute.own in
    let parts = c.in_ok-taken.ensures.cases in
    let cut : rest ≡ taken ++ after = sym (take-append-drop c.len-in-loop-attribute.result rest) ∙ (λ j. sym parts.1 j ++ sym parts.2 j) in
    let grown : take (i + 1) items ≡ take i items ++ a ∷ [] = take_more items i a (omega arith) ∙ ap (λ x. take i items ++ x ∷ []) (sym c.attribute-item.is) in
    subst (λ attrs. Gathers rows lines order after attrs c.if-attribute.common c.if-attribute.own) (sym grown)
    (elim c.if-attribute.branch [
      | then-attribute+in_ok-common w ↦
          subst (λ values. Gathers rows lines order after (take i items ++ a ∷ []) values c.if-attribute.own) (sym w.common-is)
          (subst (λ values. Gathers rows lines order after (take i items ++ a ∷ []) w.in_ok-common.common values) (sym w.own-is)
          (gathers_common rows lines order rest taken after (take i items) common own w.in_ok-common.common a c.loop-attribute.invariant cut w.if-attribute.true w.in_ok-common.ensures))
      | else-attribute+in_ok-own w ↦
          subst (λ values. Gathers rows lines order after (take i items ++ a ∷ []) values c.if-attribute.own) (sym w.common-is)
          (subst (λ values. Gathers rows lines order after (take i items ++ a ∷ []) common values) (sym w.own-is)
          (gathers_own rows lines order rest taken after (take i items) common own w.in_ok-own.own a c.loop-attribute.invariant cut w.if-attribute.false w.in_ok-own.ensures))
    ])

-- all of the lines were taken
whole : (c : goal.After-fitted-2) → Gathers c.args.schema.now c.args.lines.now c.args.self.now.order.items [] c.in-Ok-clone.attributes.value.items c.in-Ok-new.common.value c.fitted-2.result
whole c =
    let rows = c.args.schema.now in
    let lines = c.args.lines.now in
    let order = c.args.self.now.order.items in
    let items = c.as_slice-attribute-items.result.now in
    let long : length c.loop-attribute.rest.now ≡ 0 = search rules in
    let none : c.loop-attribute.rest.now ≡ [] = nil_of c.loop-attribute.rest.now long in
    let same : items ≡ c.in-Ok-clone.attributes.value.items = search rules in
    let all : take c.loop-attribute.attribute-index items ≡ c.in-Ok-clone.attributes.value.items = take_all c.loop-attribute.attribute-index items (omega arith) ∙ same in
    let common : c.in-Ok-new.common.value ≡ c.loop-attribute.common = c.in-Ok-new.ensures.ok ∙ c.fitted.ensures in
    subst (λ rest. Gathers rows lines order rest c.in-Ok-clone.attributes.value.items c.in-Ok-new.common.value c.fitted-2.result) none
    (subst (λ attrs. Gathers rows lines order c.loop-attribute.rest.now attrs c.in-Ok-new.common.value c.fitted-2.result) all
    (subst (λ values. Gathers rows lines order c.loop-attribute.rest.now (take c.loop-attribute.attribute-index items) values c.fitted-2.result) (sym common)
    (subst (λ values. Gathers rows lines order c.loop-attribute.rest.now (take c.loop-attribute.attribute-index items) c.loop-attribute.common values) (sym c.fitted-2.ensures) c.loop-attribute.invariant)))

rising : (c : goal.After-fitted-2) → IsTrue (attributes_rise (map (packed_attribute c.in-Ok-new.common.value c.fitted-2.result) c.in-Ok-clone.attributes.value.items))
rising c =
    let same : c.args.self.now.attributes.value.items ≡ c.in-Ok-clone.attributes.value.items = search rules in
    subst (λ keys. IsTrue (rises attr_cmp keys)) (keys-attributes c.in-Ok-new.common.value c.fitted-2.result c.in-Ok-clone.attributes.value.items)
    (subst (λ items. IsTrue (rises attr_cmp (map (λ a. a.description.key) items))) same c.args.self.now.rise)

pub invariant_of-result : goal.invariant_of-result
invariant_of-result c = (whole c).packed

pub returns-clause-rise : goal.returns-clause-rise
returns-clause-rise c = rising c

pub returns-clause-value : goal.returns-clause-value
returns-clause-value c =
    let long : length c.args.self.now.order.items ≡ length c.args.lines.now = search rules in
    gathers_all c.args.schema.now c.args.lines.now c.args.self.now.order.items c.in-Ok-clone.attributes.value.items c.in-Ok-new.common.value c.fitted-2.result c.args.self.now.each_line long (whole c) (rising c)
