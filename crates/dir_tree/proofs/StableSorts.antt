-- What a stable sort by a key keeps: the elements of each key, in their order.
use Rattle.std.proofs.Common.{◌≡◌, Bool, true, false, not, ◌&&◌, List, refl, sym, ap, ◌∙◌, true≢false}
use Rattle.std.specs.List.{filter}
use Rattle.std.specs.List.Sorted.{IsStableBy, ties}
use Rattle.std.specs.declared.cmp.Ordering.{Ordering}
use Rattle.std.specs.declared.cmp.Ordering.TheVariants.{Less, Equal, Greater}
use Rattle.std.specs.Ordering.{eq_by_cmp, is_lt, ordering_reverse}
use Rattle.std.specs.Cmp.{IsTotalOrder, IsStrictWeakOrder}

module _ {X K : Type 0} (R : K → K → Ordering) (o : IsTotalOrder R) (key : X → K) where
  abbrev pub before : X → X → Bool
  before x y = is_lt (R (key x) (key y))

  pub weak_by : IsStrictWeakOrder before
  weak_by = record { one_way = one_way; chain = chain }
    where
      one_way : (x y : X) → before x y ≡ true → before y x ≡ false
      one_way x y e = ap is_lt (o.antisymm (key y) (key x)) ∙ by (R (key x) (key y)) e
        where
          by : (r : Ordering) → is_lt r ≡ true → is_lt (ordering_reverse r) ≡ false
          by Less e = refl
          by Equal e = absurd (true≢false (sym e))
          by Greater e = absurd (true≢false (sym e))

      chain : (x y z : X) → before x y ≡ false → before y z ≡ false → before x z ≡ false
      chain x y z e f = by (R (key x) (key y)) refl e (R (key x) (key z)) refl
        where
          by : (r : Ordering) → R (key x) (key y) ≡ r → is_lt r ≡ false → (s : Ordering) → R (key x) (key z) ≡ s → is_lt s ≡ false
          by Less p q s t = absurd (true≢false q)
          by Equal p q s t = ap is_lt (sym t ∙ o.congr (key x) (key y) (key z) p) ∙ f
          by Greater p q Equal t = refl
          by Greater p q Greater t = refl
          by Greater p q Less t =
              let turned : R (key y) (key x) ≡ Less = o.antisymm (key y) (key x) ∙ ap ordering_reverse p in
              absurd (true≢false (sym (ap is_lt (o.trans (key y) (key x) (key z) turned t)) ∙ f))

  tied_is : (x y : X) → ties before x y ≡ eq_by_cmp R (key x) (key y)
  tied_is x y = ap (λ r. not (is_lt (R (key x) (key y))) && not (is_lt r)) (o.antisymm (key y) (key x)) ∙ by (R (key x) (key y))
    where
      by : (r : Ordering) → (not (is_lt r) && not (is_lt (ordering_reverse r))) ≡ eq_by_cmp (λ a b. r) (key x) (key y)
      by Less = refl
      by Equal = refl
      by Greater = refl

  pub stable_by : (xs ys : List X) → IsStableBy before xs ys → (x : X) → filter (λ y. eq_by_cmp R (key x) (key y)) ys ≡ filter (λ y. eq_by_cmp R (key x) (key y)) xs
  stable_by xs ys h x = (λ i. filter (λ y. sym (tied_is x y) i) ys) ∙ h x ∙ (λ i. filter (λ y. tied_is x y i) xs)
