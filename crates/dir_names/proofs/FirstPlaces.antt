-- A search by `memchr` finds the first place of a byte.
use Rattle.std.proofs.Common.{◌≡◌, ℕ, zero, suc, ◌+◌, ◌<◌, Bool, true, false, not, cond, List, [], ◌∷◌, length, get_or, Option, Some, None, refl, sym, ap, ◌∙◌, arith}
use Rattle.std.specs.Prelude.{nat_lt, position}
use Rattle.std.specs.List.{position_or_len}
use Rattle.std.proofs.lemmas.Bool.{false_from_ne_true}
use Rattle.memchr.specs.Find.{IsFirstByte}

module _ (test : ℕ → Bool) where
  first_is : (xs : List ℕ) (k : ℕ) → k < length xs → test (get_or xs k 0) ≡ true → ((j : ℕ) → j < k → test (get_or xs j 0) ≡ false) → position_or_len test xs ≡ k
  first_is [] k lt e h = absurd (omega arith)
  first_is (x ∷ xs) zero lt e h = ap (λ t. cond (not t) (1 + position_or_len test xs) 0) e
  first_is (x ∷ xs) (suc k) lt e h =
      let later = first_is xs k (omega arith) e (λ j l. h (suc j) (omega arith)) in
      ap (λ t. cond (not t) (1 + position_or_len test xs) 0) (h 0 (omega arith)) ∙ omega (arith, later)

  none_is : (xs : List ℕ) → ((j : ℕ) → j < length xs → test (get_or xs j 0) ≡ false) → position_or_len test xs ≡ length xs
  none_is [] h = refl
  none_is (x ∷ xs) h =
      let later = none_is xs (λ j l. h (suc j) (omega arith)) in
      ap (λ t. cond (not t) (1 + position_or_len test xs) 0) (h 0 (omega arith)) ∙ omega (arith, later)

  pub first_place : (xs : List ℕ) (r : Option ℕ) → IsFirstByte test xs r → r ≡ position test xs
  first_place xs None h =
      let all = none_is xs (λ j l. false_from_ne_true _ (h j (omega arith) l)) in
      let within : nat_lt (position_or_len test xs) (length xs) ≡ false = grind (arith, all) in
      ap (λ t. cond t (Some (position_or_len test xs)) None) (sym within)
  first_place xs (Some k) h =
      let at = first_is xs k h.0.high h.1 (λ j l. false_from_ne_true _ (h.0.before j (omega arith) l)) in
      let high = h.0.high in
      let within : nat_lt (position_or_len test xs) (length xs) ≡ true = grind (arith, at, high) in
      ap Some (sym at) ∙ ap (λ t. cond t (Some (position_or_len test xs)) None) (sym within)
