-- Lemmas on the usual bytes of a text.
use Rattle.std.proofs.Common.{◌≡◌, ℕ, zero, suc, ◌≤◌, Bool, true, false, ◌&&◌, List, [], ◌∷◌, ◌++◌, take, drop, refl, ⊎_elim, arith}
use Rattle.std.proofs.lemmas.Bool.Decides.{nat_tests}
use Rattle.std.specs.List.{list_all, list_any}
use Rattle.dir_ldif.specs.AttrVal.{is_nul_or_cr}
use Rattle.dir_ldif.specs.LineText.{is_safe}
use Rattle.dir_ldif.specs.Inside.Usual.{is_usual}
use Rattle.dir_ldif.proofs.BytesLemmas.{true_or_false}

module _ (test : ℕ → Bool) where
  pub all-append : (xs ys : List ℕ) → list_all test (xs ++ ys) ≡ (list_all test xs && list_all test ys)
  all-append [] ys = refl
  all-append (x ∷ xs) ys =
      ⊎_elim (λ (yes : test x ≡ true). rw yes (all-append xs ys)) (λ (no : test x ≡ false). rw no refl) (true_or_false (test x))

  -- a prefix and an end that leave nothing out between them
  pub all-covered : (xs : List ℕ) (k m : ℕ) → m ≤ k → (list_all test (take k xs) && list_all test (drop m xs)) ≡ list_all test xs
  all-covered [] zero zero h = refl
  all-covered [] (suc k) zero h = refl
  all-covered [] zero (suc m) h = absurd (omega arith)
  all-covered [] (suc k) (suc m) h = refl
  all-covered (x ∷ xs) zero zero h = refl
  all-covered (x ∷ xs) zero (suc m) h = absurd (omega arith)
  all-covered (x ∷ xs) (suc k) zero h =
      ⊎_elim (λ (yes : test x ≡ true). rw yes (all-covered xs k 0 (omega arith))) (λ (no : test x ≡ false). rw no refl) (true_or_false (test x))
  all-covered (x ∷ xs) (suc k) (suc m) h =
      ⊎_elim (λ (yes : test x ≡ true). rw yes (all-covered xs k m (omega arith))) (λ (no : test x ≡ false). rw no refl) (true_or_false (test x))

usual-safe : (b : ℕ) → is_usual b ≡ true → is_safe b ≡ true
usual-safe b e = grind (arith, nat_tests)

usual-no_end : (b : ℕ) → is_usual b ≡ true → is_nul_or_cr b ≡ false
usual-no_end b e = grind (arith, nat_tests)

-- usual bytes are safe
pub all_usual-safe : (xs : List ℕ) → list_all is_usual xs ≡ true → list_all is_safe xs ≡ true
all_usual-safe [] e = refl
all_usual-safe (x ∷ xs) e =
    ⊎_elim
    (λ (yes : is_usual x ≡ true). let rest : list_all is_usual xs ≡ true = rw yes at e in rw (usual-safe x yes) (all_usual-safe xs rest))
    (λ (no : is_usual x ≡ false). let never : false ≡ true = rw no at e in cc)
    (true_or_false (is_usual x))

-- usual bytes are neither NUL nor CR
pub all_usual-no_end : (xs : List ℕ) → list_all is_usual xs ≡ true → list_any is_nul_or_cr xs ≡ false
all_usual-no_end [] e = refl
all_usual-no_end (x ∷ xs) e =
    ⊎_elim
    (λ (yes : is_usual x ≡ true). let rest : list_all is_usual xs ≡ true = rw yes at e in rw (usual-no_end x yes) (all_usual-no_end xs rest))
    (λ (no : is_usual x ≡ false). let never : false ≡ true = rw no at e in cc)
    (true_or_false (is_usual x))
