-- Two types that have ranks are compared by them.
use Rattle.std.proofs.Common.{◌≡◌, ℕ, zero, suc, ◌<◌, Bool, true, false, ◌&&◌, T, List, nat_lt, refl, ap, sym, subst, ◌∙◌, arith}
use Rattle.std.specs.declared.cmp.Ordering.{Ordering}
use Rattle.std.specs.declared.cmp.Ordering.TheVariants.{Less, Equal, Greater}
use Rattle.std.specs.Ordering.{nat_cmp, is_eq}
use Rattle.std.specs.Prelude.{◌==◌}
use Rattle.std.specs.Cmp.{unsigned_ties}
use Rattle.std.proofs.lemmas.Bool.{ltb-true, lt-ltb}
use Rattle.dir_names.specs.Attr.{Attr}
use Rattle.dir_names.specs.declared.schema.TypeRow.{TypeRow}
use Rattle.dir_names.specs.Inside.Ranks.{ranked_types, ranked_type, ranked_attr, HasRank, IsTextAt}
use Rattle.dir_names.specs.Orders.{bytes_cmp, bytes_eq, bytes_cmp_ties}
use Rattle.dir_names.specs.Table.{rule_of, single_of}
use Rattle.dir_names.proofs.Placed.{first, second}

abbrev is_same : Ordering → Ordering → Bool
is_same Less Less = true
is_same Less Equal = false
is_same Less Greater = false
is_same Equal Less = false
is_same Equal Equal = true
is_same Equal Greater = false
is_same Greater Less = false
is_same Greater Equal = false
is_same Greater Greater = true

same_ordering : (a b : Ordering) → T (is_same a b) → a ≡ b
same_ordering Less Less e = refl
same_ordering Less Equal e = absurd e
same_ordering Less Greater e = absurd e
same_ordering Equal Less e = absurd e
same_ordering Equal Equal e = refl
same_ordering Equal Greater e = absurd e
same_ordering Greater Less e = absurd e
same_ordering Greater Equal e = absurd e
same_ordering Greater Greater e = refl

abbrev all_below : ℕ → (ℕ → Bool) → Bool
all_below zero f = true
all_below (suc n) f = f n && all_below n f

at_below : (n : ℕ) (f : ℕ → Bool) (k : ℕ) → k < n → T (all_below n f) → T (f k)
at_below zero f k h t = absurd (omega arith)
at_below (suc n) f k h t = by (nat_lt k n) refl (at_below n f k)
  where
    by : (b : Bool) → nat_lt k n ≡ b → (k < n → T (all_below n f) → T (f k)) → T (f k)
    by true e earlier = earlier (ltb-true k n e) (second (f n) _ t)
    by false e earlier = let same : n ≡ k = grind arith in subst (λ x. T (f x)) same (first (f n) _ t)

abbrev are_in_order : ℕ → ℕ → Bool
are_in_order r s = is_same (bytes_cmp (ranked_type r) (ranked_type s)) (nat_cmp r s)

in_order : T (all_below 68 (λ r. all_below 68 (are_in_order r)))
unfolding ranked_types
in_order = tt

ranked_cmp : (r s : ℕ) → r < 68 → s < 68 → bytes_cmp (ranked_type r) (ranked_type s) ≡ nat_cmp r s
ranked_cmp r s g h = same_ordering _ _ (at_below 68 (are_in_order r) s h (at_below 68 (λ r. all_below 68 (are_in_order r)) r g in_order))

pub cmp_by_rank : (a b : List ℕ) (r s : ℕ) → HasRank a r → HasRank b s → nat_cmp r s ≡ bytes_cmp a b
cmp_by_rank a b r s g h =
    sym (ranked_cmp r s (ltb-true r 68 g.0) (ltb-true s 68 h.0)) ∙ (λ i. bytes_cmp (sym g.1 i) (sym h.1 i))

pub eq_by_rank : (a b : List ℕ) (r s : ℕ) → HasRank a r → HasRank b s → (r == s) ≡ bytes_eq a b
eq_by_rank a b r s g h = unsigned_ties r s ∙ ap is_eq (cmp_by_rank a b r s g h) ∙ sym (bytes_cmp_ties a b)

pub placed_rank : (t : List ℕ) (r : ℕ) → IsTextAt ranked_types t r → HasRank t r
unfolding ranked_types
placed_rank t r found = (lt-ltb r 68 found.0, sym found.1)

-- what a table says of a type, it says of each attribute of this type
pub rule_by_rank : (rows : List TypeRow) (a : Attr) (r : ℕ) → HasRank a.attr_type r → rule_of rows (ranked_attr r) ≡ rule_of rows a
rule_by_rank rows a r h = λ i. rule_of rows (record { attr_type = sym h.1 i; options = a.options })

pub single_by_rank : (rows : List TypeRow) (a : Attr) (r : ℕ) → HasRank a.attr_type r → single_of rows (ranked_attr r) ≡ single_of rows a
single_by_rank rows a r h = λ i. single_of rows (record { attr_type = sym h.1 i; options = a.options })
