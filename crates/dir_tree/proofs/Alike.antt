-- `==` of packed attributes and of packed values says that they are equal, and so does a `!=` that is false.
use Rattle.std.proofs.Common.{◌≡◌, ◌∙◌, ◌&&◌, Bool, true, false, not, ap, nat_eq, refl, subst, sym, true≢false}
use Rattle.std.specs.Prelude.{Decides}
use Rattle.std.specs.Cmp.{booleans_Decides, first_so, second_so}
use Rattle.std.proofs.Math.Bool.{beq}
use Rattle.std.proofs.lemmas.Bool.Decides.{Decides-eqb}
use Rattle.dir_names.specs.Described.{described_eq, described_eq_decides}
use Rattle.dir_tree.specs.declared.packed.PackedAttribute.{PackedAttribute}
use Rattle.dir_tree.specs.declared.packed.PackedKey.{PackedKey}
use Rattle.dir_tree.specs.declared.packed.PackedKey.TheVariants as packed_key
use Rattle.dir_tree.specs.declared.packed.PackedValue.{PackedValue}
use Rattle.dir_tree.specs.contracts.packed.PackedKeyPartialEq.TheImpl as key_impl

-- what `!=` answers
pub is_same : (b r : Bool) → r ≡ not b → r ≡ false → b ≡ true
is_same true r e f = refl
is_same false r e f = absurd (true≢false (sym e ∙ f))

pub attribute_eq_decides : (a b : PackedAttribute) → Decides (beq a.is_common b.is_common && (nat_eq a.start b.start && (nat_eq a.end b.end && described_eq a.description b.description))) (a ≡ b)
attribute_eq_decides a b =
    let described = described_eq a.description b.description in
    let side = booleans_Decides a.is_common b.is_common in
    let start = Decides-eqb a.start b.start in
    let end = Decides-eqb a.end b.end in
    let description = described_eq_decides a.description b.description in
    let ends = nat_eq a.end b.end && described in
    let starts = nat_eq a.start b.start && ends in (
      λ e i. record { is_common = side.0 (first_so _ starts e) i; start = start.0 (first_so _ ends (second_so (beq a.is_common b.is_common) _ e)) i; end = end.0 (first_so _ described (second_so (nat_eq a.start b.start) _ (second_so (beq a.is_common b.is_common) _ e))) i; description = description.0 (second_so (nat_eq a.end b.end) _ (second_so (nat_eq a.start b.start) _ (second_so (beq a.is_common b.is_common) _ e))) i },
      λ e i. side.1 (ap (λ (x : PackedAttribute). x.is_common) e) i && (start.1 (ap (λ (x : PackedAttribute). x.start) e) i && (end.1 (ap (λ (x : PackedAttribute). x.end) e) i && description.1 (ap (λ (x : PackedAttribute). x.description) e) i)),
    )

abbrev pub key_eq : PackedKey → PackedKey → Bool
key_eq = key_impl.eq-value.it

key_eq_same : (a b : PackedKey) → key_eq a b ≡ true → a ≡ b
key_eq_same packed_key.Same packed_key.Same e = refl
key_eq_same packed_key.Same (packed_key.Text to) e = absurd (true≢false (sym e))
key_eq_same packed_key.Same (packed_key.Name at) e = absurd (true≢false (sym e))
key_eq_same (packed_key.Text from) packed_key.Same e = absurd (true≢false (sym e))
key_eq_same (packed_key.Text from) (packed_key.Text to) e = ap packed_key.Text ((Decides-eqb from to).0 e)
key_eq_same (packed_key.Text from) (packed_key.Name at) e = absurd (true≢false (sym e))
key_eq_same (packed_key.Name at) packed_key.Same e = absurd (true≢false (sym e))
key_eq_same (packed_key.Name at) (packed_key.Text to) e = absurd (true≢false (sym e))
key_eq_same (packed_key.Name at) (packed_key.Name other) e = ap packed_key.Name ((Decides-eqb at other).0 e)

key_eq_refl : (a : PackedKey) → key_eq a a ≡ true
key_eq_refl packed_key.Same = refl
key_eq_refl (packed_key.Text to) = (Decides-eqb to to).1 refl
key_eq_refl (packed_key.Name at) = (Decides-eqb at at).1 refl

pub key_eq_decides : (a b : PackedKey) → Decides (key_eq a b) (a ≡ b)
key_eq_decides a b = (key_eq_same a b, λ e. subst (λ k. key_eq a k ≡ true) e (key_eq_refl a))

pub value_eq_decides : (a b : PackedValue) → Decides (nat_eq a.start b.start && (nat_eq a.end b.end && key_eq a.key b.key)) (a ≡ b)
value_eq_decides a b =
    let start = Decides-eqb a.start b.start in
    let end = Decides-eqb a.end b.end in
    let key = key_eq_decides a.key b.key in (
      λ e i. record { start = start.0 (first_so _ (nat_eq a.end b.end && key_eq a.key b.key) e) i; end = end.0 (first_so _ (key_eq a.key b.key) (second_so (nat_eq a.start b.start) _ e)) i; key = key.0 (second_so (nat_eq a.end b.end) _ (second_so (nat_eq a.start b.start) _ e)) i },
      λ e i. start.1 (ap (λ (x : PackedValue). x.start) e) i && (end.1 (ap (λ (x : PackedValue). x.end) e) i && key.1 (ap (λ (x : PackedValue). x.key) e) i),
    )
