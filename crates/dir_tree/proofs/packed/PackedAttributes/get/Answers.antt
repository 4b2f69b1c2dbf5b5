use Rattle.std.proofs.Common.{◌≡◌, [], get_or, map, sym, ap, subst, ◌∙◌, IsTrue, Some}
use Rattle.std.proofs.lemmas.Simd.{map-map}
use Rattle.std.specs.FinMap as fin
use Rattle.dir_names.specs.Attr.{Attr}
use Rattle.dir_names.specs.Orders.{attr_cmp, attr_cmp_total, attr_cmp_exact}
use Rattle.dir_names.specs.Sorted.{place, rises}
use Rattle.dir_tree.specs.Content.{Stored}
use Rattle.dir_tree.specs.declared.packed.PackedAttribute.{PackedAttribute}
use Rattle.dir_tree.specs.Inside.Packed.{packed_attribute}
use Rattle.dir_tree.specs.Inside.Stored.{attribute_pair, attributes_in}
use Rattle.dir_tree.proofs.SortedVecs.{found, got, keys_in, missing}
use Rattle.dir_tree.proofs.packed.PackedAttributes.get.Goals as goal
use Rattle.dir_tree.proofs.packed.PackedAttributes.get.Goals.{After-place_of}

abbrev pair : After-place_of → PackedAttribute → Attr × Stored
pair c a = attribute_pair (packed_attribute c.self.inside.common.value c.self.inside.own a)

in_order : (c : After-place_of) → IsTrue (rises attr_cmp (map (λ a. (pair c a).0) c.self.inside.attributes.value.items))
in_order c =
    subst (λ keys. IsTrue (rises attr_cmp keys)) (map-map (λ a. (attribute_pair a).0) (packed_attribute c.self.inside.common.value c.self.inside.own) c.self.inside.attributes.value.items)
    (ap (λ all. rises attr_cmp (map (λ a. (attribute_pair a).0) all)) c.self.view_is ∙ c.requires)

at : (c : After-place_of) → c.place_of.result ≡ place attr_cmp c.args.key.now (keys_in attr_cmp_total (pair c) c.self.inside.attributes.value.items)
at c =
    c.place_of.ensures.place
    ∙ ap (λ all. place attr_cmp c.args.key.now (map (λ a. a.description.key) all)) (c.as_slice.ensures.value ∙ ap (λ v. v.items) c.deref.ensures)

-- the map that the attributes are is that of the pairs
map_is : (c : After-place_of) → fin.get (fin.from_sorted {R = attr_cmp} (map (pair c) c.self.inside.attributes.value.items)) c.args.key.now ≡ fin.get (attributes_in c.args.self.now) c.args.key.now
map_is c =
    ap (λ es. fin.get (fin.from_sorted {R = attr_cmp} es) c.args.key.now) (sym (map-map attribute_pair (packed_attribute c.self.inside.common.value c.self.inside.own) c.self.inside.attributes.value.items))
    ∙ ap (λ all. fin.get (attributes_in all) c.args.key.now) c.self.view_is

pub place_of-requires : goal.place_of-requires
place_of-requires c =
    subst (λ items. IsTrue (rises attr_cmp (map (λ a. a.description.key) items))) (sym (c.as_slice.ensures.value ∙ ap (λ v. v.items) c.deref.ensures))
    (subst (λ keys. IsTrue (rises attr_cmp keys)) (map-map (λ a. (attribute_pair a).0) (packed_attribute c.self.inside.common.value c.self.inside.own) c.self.inside.attributes.value.items)
    (ap (λ all. rises attr_cmp (map (λ a. (attribute_pair a).0) all)) c.self.view_is ∙ c.requires))

pub returns-in-Ok-clause-value : goal.returns-in-Ok-clause-value
returns-in-Ok-clause-value c =
    let s = (goal.at.returns-in-Ok-clause-value c).After-place_of in
    ap (λ a. Some a.stored) (c.view_of.ensures ∙ (λ i. packed_attribute ((c.as_slice-in-Ok.ensures ∙ c.deref-in-Ok-2.ensures) i) (c.as_slice-in-Ok-2.ensures i) c.index.result.now))
    ∙ sym (got attr_cmp_total (pair s) c.self.inside.attributes.value.items (in_order s) c.args.key.now c.place_of.result (at s) c.in-Ok.at c.in-Ok.is c.index.result.now ∙ ap (λ a. Some (pair s a).1) (sym (c.index.ensures ∙ ap (λ v. get_or v.items c.in-Ok.at c.index.result.now) c.deref-in-Ok.ensures)))
    ∙ map_is s

pub returns-in-Ok-clause-key : goal.returns-in-Ok-clause-key
returns-in-Ok-clause-key c =
    let s = (goal.at.returns-in-Ok-clause-key c).After-place_of in
    ap (λ a. a.key) (c.view_of.ensures ∙ (λ i. packed_attribute ((c.as_slice-in-Ok.ensures ∙ c.deref-in-Ok-2.ensures) i) (c.as_slice-in-Ok-2.ensures i) c.index.result.now))
    ∙ ap (λ a. (pair s a).0) (c.index.ensures ∙ ap (λ v. get_or v.items c.in-Ok.at c.index.result.now) c.deref-in-Ok.ensures)
    ∙ found attr_cmp_total (pair s) attr_cmp_exact c.args.key.now c.self.inside.attributes.value.items c.in-Ok.at c.index.result.now (sym (at s) ∙ c.in-Ok.is)

pub returns-in-Err-clause-value : goal.returns-in-Err-clause-value
returns-in-Err-clause-value c =
    let s = (goal.at.returns-in-Err-clause-value c).After-place_of in
    sym (missing attr_cmp_total (pair s) c.self.inside.attributes.value.items (in_order s) c.args.key.now c.place_of.result (at s) c.in-Err.field-0 c.in-Err.is (record { spelling = []; values = fin.empty }))
    ∙ map_is s
