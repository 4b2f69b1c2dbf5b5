-- Two texts that are compared byte by byte.
use Rattle.std.proofs.Common.{◌≡◌, ◌<◌, ◌+◌, ℕ, zero, suc, true, false, List, [], ◌∷◌, length, drop, get_or, min, refl, sym, ap, ◌∙◌, arith}
use Rattle.std.proofs.lemmas.Bool.Decides.{nat_tests}
use Rattle.std.proofs.lemmas.List.{drop_more}
use Rattle.std.specs.declared.cmp.Ordering.{Ordering}
use Rattle.std.specs.declared.cmp.Ordering.TheVariants.{Less, Equal, Greater}
use Rattle.std.specs.Cmp.{nat_cmp_is, unsigned_ties}
use Rattle.std.specs.Ordering.{is_eq, nat_cmp, ordering_then}
use Rattle.std.specs.Prelude.{◌==◌}
use Rattle.dir_names.specs.Orders.{bytes_cmp}

zero_or_more : (n : ℕ) → nat_cmp 0 (suc n) ≡ Less
zero_or_more n = sym (nat_cmp_is 0 (suc n) Less (omega arith))

more_or_zero : (n : ℕ) → nat_cmp (suc n) 0 ≡ Greater
more_or_zero n = sym (nat_cmp_is (suc n) 0 Greater (omega arith))

both_more : (m n : ℕ) → nat_cmp (suc m) (suc n) ≡ nat_cmp m n
both_more m n = grind (arith, nat_tests)

-- where one of them ends
pub at_end : (xs ys : List ℕ) (i : ℕ) → i ≡ min (length xs) (length ys) → nat_cmp (length xs) (length ys) ≡ bytes_cmp (drop i xs) (drop i ys)
at_end [] [] zero e = refl
at_end [] (y ∷ ys) zero e = zero_or_more (length ys)
at_end (x ∷ xs) [] zero e = more_or_zero (length xs)
at_end (x ∷ xs) (y ∷ ys) zero e = absurd (omega (arith, e))
at_end [] [] (suc i) e = absurd (omega (arith, e))
at_end [] (y ∷ ys) (suc i) e = absurd (omega (arith, e))
at_end (x ∷ xs) [] (suc i) e = absurd (omega (arith, e))
at_end (x ∷ xs) (y ∷ ys) (suc i) e = both_more (length xs) (length ys) ∙ at_end xs ys i (omega (arith, e))

module _ (xs ys : List ℕ) (i x y : ℕ) (inside : i < length xs) (inside_too : i < length ys) (is : x ≡ get_or xs i 0) (is_too : y ≡ get_or ys i 0) where
  at_bytes : bytes_cmp (drop i xs) (drop i ys) ≡ ordering_then (nat_cmp x y) (bytes_cmp (drop (i + 1) xs) (drop (i + 1) ys))
  at_bytes =
      let left : drop i xs ≡ x ∷ drop (i + 1) xs = drop_more xs i 0 inside ∙ ap (λ z. z ∷ drop (i + 1) xs) (sym is) in
      let right : drop i ys ≡ y ∷ drop (i + 1) ys = drop_more ys i 0 inside_too ∙ ap (λ z. z ∷ drop (i + 1) ys) (sym is_too) in
      λ j. bytes_cmp (left j) (right j)

  -- where two bytes differ, they decide
  pub at_difference : (x == y) ≡ false → bytes_cmp (drop i xs) (drop i ys) ≡ nat_cmp x y
  at_difference e = at_bytes ∙ by (nat_cmp x y) (sym (unsigned_ties x y) ∙ e)
    where
      by : (o : Ordering) → is_eq o ≡ false → ordering_then o (bytes_cmp (drop (i + 1) xs) (drop (i + 1) ys)) ≡ o
      by Less f = refl
      by Greater f = refl
      by Equal f = absurd (cc)

  -- where they are the same, the bytes after them decide
  pub after_same : (x == y) ≡ true → bytes_cmp (drop i xs) (drop i ys) ≡ bytes_cmp (drop (i + 1) xs) (drop (i + 1) ys)
  after_same e = at_bytes ∙ by (nat_cmp x y) (sym (unsigned_ties x y) ∙ e)
    where
      by : (o : Ordering) → is_eq o ≡ true → ordering_then o (bytes_cmp (drop (i + 1) xs) (drop (i + 1) ys)) ≡ bytes_cmp (drop (i + 1) xs) (drop (i + 1) ys)
      by Less f = absurd (cc)
      by Greater f = absurd (cc)
      by Equal f = refl
