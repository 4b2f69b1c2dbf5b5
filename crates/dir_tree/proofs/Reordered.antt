-- Lists with the same elements in another order.
use Rattle.std.proofs.Common.{◌≡◌, Bool, true, false, cond, List, [], ◌∷◌, length, refl, sym, ap, subst, ◌∙◌, true≢false, arith}
use Rattle.std.specs.List.{All, filter}
use Rattle.std.specs.List.Sorted.{IsPermutation}
use Rattle.std.proofs.lemmas.List.Elements.{All-nil, All-cons, All-head, All-tail, All-weaker, All-filter}
use Rattle.std.proofs.lemmas.List.Sorted.{All-permutation, IsPermutation-sym, sum_by-IsPermutation}
use Rattle.std.proofs.lemmas.List.Sums.{length-filter}
use Rattle.dir_tree.proofs.Orderless.{few, few_tail}

module _ {A : Type 0} (p : A → Bool) where
  pub passed : (xs : List A) → All (λ x. p x ≡ true) (filter p xs)
  passed [] = All-nil (λ x. p x ≡ true)
  passed (x ∷ xs) = by (passed xs) (p x) refl
    where
      by : All (λ x. p x ≡ true) (filter p xs) → (b : Bool) → p x ≡ b → All (λ x. p x ≡ true) (cond b (x ∷ filter p xs) (filter p xs))
      by rest true t = All-cons (λ x. p x ≡ true) x (filter p xs) t rest
      by rest false t = rest

  none_pass : (xs : List A) → filter p xs ≡ [] → All (λ x. p x ≡ false) xs
  none_pass [] e = All-nil (λ x. p x ≡ false)
  none_pass (x ∷ xs) e = by (none_pass xs) (p x) refl e
    where
      by : (filter p xs ≡ [] → All (λ x. p x ≡ false) xs) → (b : Bool) → p x ≡ b → cond b (x ∷ filter p xs) (filter p xs) ≡ [] → All (λ x. p x ≡ false) (x ∷ xs)
      by rest true t h = absurd (cc)
      by rest false t h = All-cons (λ x. p x ≡ false) x xs t (rest h)

  pub none_passed : (xs : List A) → All (λ x. p x ≡ false) xs → filter p xs ≡ []
  none_passed [] h = refl
  none_passed (x ∷ xs) h = ap (λ b. cond b (x ∷ filter p xs) (filter p xs)) (All-head (λ x. p x ≡ false) x xs h) ∙ none_passed xs (All-tail (λ x. p x ≡ false) x xs h)

  only : (y : A) (xs : List A) → filter p xs ≡ y ∷ [] → All (λ x. p x ≡ true → x ≡ y) xs
  only y [] e = All-nil (λ x. p x ≡ true → x ≡ y)
  only y (x ∷ xs) e = by (only y xs) (p x) refl e
    where
      by : (filter p xs ≡ y ∷ [] → All (λ x. p x ≡ true → x ≡ y) xs) → (b : Bool) → p x ≡ b → cond b (x ∷ filter p xs) (filter p xs) ≡ y ∷ [] → All (λ x. p x ≡ true → x ≡ y) (x ∷ xs)
      by more true t h =
          let first : x ≡ y = cc in
          let rest : filter p xs ≡ [] = cc in
          All-cons (λ x. p x ≡ true → x ≡ y) x xs (λ _. first) (All-weaker (λ x. p x ≡ false) (λ x. p x ≡ true → x ≡ y) (λ z n q. absurd (true≢false (sym q ∙ n))) xs (none_pass xs rest))
      by more false t h = All-cons (λ x. p x ≡ true → x ≡ y) x xs (λ q. absurd (true≢false (sym q ∙ t))) (more h)

  pub none_same : (xs ys : List A) → IsPermutation xs ys → filter p xs ≡ [] → filter p ys ≡ []
  none_same xs ys same e = none_passed ys (All-permutation (λ x. p x ≡ false) xs ys same (none_pass xs e))

  -- a test that at most one element passes finds the same one in both
  pub few_same : (xs ys : List A) → IsPermutation xs ys → few (filter p ys) ≡ true → filter p xs ≡ filter p ys
  few_same xs ys same one = by (filter p ys) refl one
    where
      long : length (filter p xs) ≡ length (filter p ys)
      long = length-filter p xs ∙ sym (sum_by-IsPermutation (λ x. cond (p x) 1 0) xs ys same) ∙ sym (length-filter p ys)

      by : (fs : List A) → filter p ys ≡ fs → few fs ≡ true → filter p xs ≡ fs
      by [] t f = none_same ys xs (IsPermutation-sym xs ys same) t
      by (y ∷ rest) t f =
          let alone : filter p ys ≡ y ∷ [] = t ∙ ap (λ r. y ∷ r) (few_tail y rest f) in
          let all : All (λ x. p x ≡ true → x ≡ y) (filter p xs) = All-filter p (λ x. p x ≡ true → x ≡ y) xs (All-permutation (λ x. p x ≡ true → x ≡ y) ys xs (IsPermutation-sym xs ys same) (only y ys alone)) in
          found (filter p xs) refl (long ∙ ap length alone) all ∙ ap (λ r. y ∷ r) (sym (few_tail y rest f))
        where
          found : (fs : List A) → filter p xs ≡ fs → length fs ≡ 1 → All (λ x. p x ≡ true → x ≡ y) fs → fs ≡ y ∷ []
          found [] e n h = absurd (omega (arith, n))
          found (x ∷ []) e n h =
              let passes : p x ≡ true = All-head (λ x. p x ≡ true) x [] (subst (All (λ x. p x ≡ true)) e (passed xs)) in
              ap (λ z. z ∷ []) (All-head (λ x. p x ≡ true → x ≡ y) x [] h passes)
          found (x ∷ z ∷ zs) e n h = absurd (omega (arith, n))
