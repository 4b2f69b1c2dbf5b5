use Rattle.std.proofs.Common.{rules, ◌≡◌, ◌∙◌, sym, ap, subst, IsTrue, Ok, ◌<◌, ◌++◌, length, get_or, drop, map}
use Rattle.std.specs.FinMap as fin
use Rattle.std.specs.FinMap.{len-entries}
use Rattle.std.specs.List.{All}
use Rattle.std.proofs.lemmas.List.{get_or_default}
use Rattle.std.proofs.lemmas.Simd.{map-map}
use Rattle.dir_names.specs.Described.{described_eq_decides}
use Rattle.dir_names.specs.Orders.{attr_cmp}
use Rattle.dir_names.specs.Sorted.{place, rises}
use Rattle.dir_tree.specs.Inside.Packed.{IsAlone, IsPacked, packed_attribute, part_of}
use Rattle.dir_tree.specs.Inside.Stored.{attribute_pair, attributes_in, attributes_rise}
use Rattle.dir_tree.proofs.Alike.{is_same}
use Rattle.dir_tree.proofs.ExchangedAttributes.{Exchanges, map_exchanged, own_is, own_now, packed_exchanged, rise_exchanged}
use Rattle.dir_tree.proofs.packed.PackedAttributes.with_exchanged.Goals as goal
use Rattle.dir_tree.proofs.packed.PackedAttributes.with_exchanged.Goals.{In_ok-common}

pub place_of-requires : goal.place_of-requires
place_of-requires c =
    subst (λ items. IsTrue (rises attr_cmp (map (λ a. a.description.key) items))) (sym (c.as_slice-listed.ensures.value ∙ ap (λ v. v.items) c.deref.ensures))
    (subst (λ keys. IsTrue (rises attr_cmp keys)) (map-map (λ a. (attribute_pair a).0) (packed_attribute c.self.inside.common.value c.self.inside.own) c.self.inside.attributes.value.items)
    (ap (λ all. rises attr_cmp (map (λ a. (attribute_pair a).0) all)) c.self.view_is ∙ c.requires))

exchanges : (c : In_ok-common) → Exchanges c.self.inside.common.value c.self.inside.own c.self.inside.attributes.value.items c.in-Ok.at c.index-listed-at.result c.args.attribute.now
exchanges c =
    let items = c.self.inside.attributes.value.items in
    let a = c.index-listed-at.result in
    let at = c.in-Ok.at in
    let listed : c.as_slice-listed.result.now ≡ items = c.as_slice-listed.ensures.value ∙ ap (λ v. v.items) c.deref.ensures in
    let within : at < length items = subst (λ xs. at < length xs) listed c.in-Ok.ensures.range in
    let count : c.len.result ≡ c.len-else-ne.result = search rules in
    let values : c.value_map-values.result.now ≡ c.args.attribute.now.stored.values = search rules in
    let is_alone : IsTrue c.is_alone.result = search rules in
    record {
      within = within;
      there = λ d. get_or_default items at d a within ∙ ap (λ xs. get_or xs at a) (sym listed) ∙ sym c.index-listed-at.is;
      packed = c.self.invariant;
      alone = subst (IsAlone a at) listed (c.is_alone.ensures is_alone);
      described = (described_eq_decides a.description c.description-2.result.now).0 (is_same _ _ c.ne.ensures c.if-ne.false) ∙ c.description-2.ensures;
      as_many = sym (len-entries c.args.attribute.now.stored.values) ∙ ap fin.len (sym values) ∙ sym c.len-else-ne.ensures ∙ sym count ∙ c.len.ensures;
    }

now_own : (c : In_ok-common) → c.in_ok-own.own ≡ own_now c.self.inside.common.value c.self.inside.own c.self.inside.attributes.value.items c.in-Ok.at c.index-listed-at.result c.args.attribute.now (exchanges c)
now_own c =
    let values : c.value_map-values.result.now ≡ c.args.attribute.now.stored.values = search rules in
    c.in_ok-own.ensures
    ∙ ap (λ m. (part_of c.self.inside.own 0 c.index-listed-at.result.start ++ fin.entries m) ++ drop c.index-listed-at.result.end c.self.inside.own) values
    ∙ own_is c.self.inside.common.value c.self.inside.own c.self.inside.attributes.value.items c.in-Ok.at c.index-listed-at.result c.args.attribute.now (exchanges c)

same_list : (c : In_ok-common) → c.in_ok-attributes.attributes.value.items ≡ c.self.inside.attributes.value.items
same_list c = search rules

same_common : (c : In_ok-common) → c.in_ok-common.common.value ≡ c.self.inside.common.value
same_common c = search rules

pub invariant_of-result : goal.invariant_of-result
invariant_of-result c =
    subst (λ values. All (IsPacked values c.in_ok-own.own) c.in_ok-attributes.attributes.value.items) (sym (same_common c))
    (subst (λ values. All (IsPacked c.self.inside.common.value values) c.in_ok-attributes.attributes.value.items) (sym (now_own c))
    (subst (All (IsPacked c.self.inside.common.value (own_now c.self.inside.common.value c.self.inside.own c.self.inside.attributes.value.items c.in-Ok.at c.index-listed-at.result c.args.attribute.now (exchanges c)))) (sym (same_list c))
    (packed_exchanged c.self.inside.common.value c.self.inside.own c.self.inside.attributes.value.items c.in-Ok.at c.index-listed-at.result c.args.attribute.now (exchanges c))))

-- what the attributes are that are answered
answered : (c : In_ok-common) → map (packed_attribute c.in_ok-common.common.value c.in_ok-own.own) c.in_ok-attributes.attributes.value.items ≡ map (packed_attribute c.self.inside.common.value (own_now c.self.inside.common.value c.self.inside.own c.self.inside.attributes.value.items c.in-Ok.at c.index-listed-at.result c.args.attribute.now (exchanges c))) c.self.inside.attributes.value.items
answered c = λ i. map (packed_attribute (same_common c i) (now_own c i)) (same_list c i)

in_order : (c : In_ok-common) → IsTrue (attributes_rise (map (packed_attribute c.self.inside.common.value c.self.inside.own) c.self.inside.attributes.value.items))
in_order c = ap attributes_rise c.self.view_is ∙ c.requires

placed : (c : In_ok-common) → place attr_cmp c.args.attribute.now.key (map (λ b. b.description.key) c.self.inside.attributes.value.items) ≡ Ok c.in-Ok.at
placed c =
    let key : c.key.result.now ≡ c.args.attribute.now.key = search rules in
    let listed : c.as_slice-listed.result.now ≡ c.self.inside.attributes.value.items = c.as_slice-listed.ensures.value ∙ ap (λ v. v.items) c.deref.ensures in
    (λ i. place attr_cmp (sym key i) (map (λ b. b.description.key) (sym listed i))) ∙ sym c.in-Ok.ensures.place

pub returns-clause-value : goal.returns-clause-value
returns-clause-value r =
    let c = (goal.at.returns-clause-value r).In_ok-common in
    ap attributes_in (answered c)
    ∙ map_exchanged c.self.inside.common.value c.self.inside.own c.self.inside.attributes.value.items c.in-Ok.at c.index-listed-at.result c.args.attribute.now (exchanges c) (in_order c) (placed c)
    ∙ ap (λ all. fin.insert (attributes_in all) c.args.attribute.now.key c.args.attribute.now.stored) c.self.view_is

pub returns-clause-rise : goal.returns-clause-rise
returns-clause-rise r =
    let c = (goal.at.returns-clause-rise r).In_ok-common in
    ap attributes_rise (answered c)
    ∙ rise_exchanged c.self.inside.common.value c.self.inside.own c.self.inside.attributes.value.items c.in-Ok.at c.index-listed-at.result c.args.attribute.now (exchanges c) (in_order c) (placed c)
