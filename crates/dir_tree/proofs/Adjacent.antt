-- A list in which each element is below the next rises.
use Rattle.std.proofs.Common.{◌≡◌, ◌<◌, ◌+◌, ℕ, suc, Bool, true, false, ◌&&◌, List, [], ◌∷◌, map, length, get_or, IsTrue, refl, sym, ap, subst, true≢false, arith}
use Rattle.std.specs.List.{list_all, IsAllAdjacentAnswer}
use Rattle.std.specs.declared.cmp.Ordering.{Ordering}
use Rattle.std.specs.declared.cmp.Ordering.TheVariants.{Less, Equal, Greater}
use Rattle.std.specs.Ordering.{is_lt}
use Rattle.std.specs.Cmp.{IsTotalOrder}
use Rattle.dir_names.specs.Sorted.{rises}

is_less : (r : Ordering) → is_lt r ≡ true → r ≡ Less
is_less Less e = refl
is_less Equal e = absurd (true≢false (sym e))
is_less Greater e = absurd (true≢false (sym e))

module _ {X K : Type 0} (R : K → K → Ordering) (o : IsTotalOrder R) (key : X → K) where
  below_rest : (k j : K) (xs : List X) → is_lt (R k j) ≡ true → list_all (λ y. is_lt (R j y)) (map key xs) ≡ true → list_all (λ y. is_lt (R k y)) (map key xs) ≡ true
  below_rest k j [] e h = refl
  below_rest k j (x ∷ xs) e h = by (below_rest k j xs e) (is_lt (R j (key x))) refl h
    where
      by : (list_all (λ y. is_lt (R j y)) (map key xs) ≡ true → list_all (λ y. is_lt (R k y)) (map key xs) ≡ true) → (b : Bool) → is_lt (R j (key x)) ≡ b → (b && list_all (λ y. is_lt (R j y)) (map key xs)) ≡ true → (is_lt (R k (key x)) && list_all (λ y. is_lt (R k y)) (map key xs)) ≡ true
      by more true t rest = λ i. ap is_lt (o.trans k j (key x) (is_less (R k j) e) (is_less (R j (key x)) t)) i && more rest i
      by more false t rest = absurd (true≢false (sym rest))

  -- each element is below the next
  abbrev Climbs : List X → Type 0
  Climbs [] = Unit {0}
  Climbs (x ∷ []) = Unit {0}
  Climbs (x ∷ y ∷ ys) = (is_lt (R (key x) (key y)) ≡ true) × Climbs (y ∷ ys)

  climbing : (x : X) (xs : List X) → Climbs (x ∷ xs) → rises R (map key (x ∷ xs)) ≡ true
  climbing x [] h = refl
  climbing x (y ∷ ys) h =
      let rest = climbing y ys h.1 in
      λ i. (h.0 i && below_rest (key x) (key y) ys h.0 (front _ _ rest) i) && rest i
    where
      front : (a b : Bool) → (a && b) ≡ true → a ≡ true
      front true b e = refl
      front false b e = e

  next : (k : ℕ) → k + 1 ≡ suc k
  next k = omega arith

  by_index : (x : X) (xs : List X) → ((k : ℕ) (d : X) → suc k < length (x ∷ xs) → is_lt (R (key (get_or (x ∷ xs) k d)) (key (get_or (x ∷ xs) (suc k) d))) ≡ true) → Climbs (x ∷ xs)
  by_index x [] h = tt
  by_index x (y ∷ ys) h = (h 0 x (omega arith), by_index y ys (λ k d lt. h (suc k) d (omega (arith, lt))))

  pub from_adjacent : (test : X → X → Bool) → ((x y : X) → test x y ≡ true → is_lt (R (key x) (key y)) ≡ true) → (xs : List X) (r : Bool) → IsAllAdjacentAnswer (λ x y b. b ≡ test x y) xs r → IsTrue r → IsTrue (rises R (map key xs))
  from_adjacent test tells [] r h t = refl
  from_adjacent test tells (x ∷ xs) false h t = absurd (true≢false (sym t))
  from_adjacent test tells (x ∷ xs) true h t =
      climbing x xs (by_index x xs (λ k d lt. subst (λ n. is_lt (R (key (get_or (x ∷ xs) k d)) (key (get_or (x ∷ xs) n d))) ≡ true) (next k) (tells _ _ (sym (h k d (omega (arith, lt)))))))
