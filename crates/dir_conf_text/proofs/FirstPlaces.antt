-- The place of the first element that passes a test, or the length of the list.
use Rattle.std.proofs.Common.{◌≡◌, ℕ, ◌≤◌, Bool, true, false, cond, not, nat_lt, List, length, Some, None, unwrap_or, refl, arith}
use Rattle.std.specs.List.{position, position_or_len}
use Rattle.std.proofs.lemmas.Bool.Decides.{nat_tests}
use Rattle.std.proofs.lemmas.List.Sums.{prefix_len-le-length}

module _ {X : Type 0} (p : X → Bool) where
  pub place_within : (xs : List X) → position_or_len p xs ≤ length xs
  place_within xs = prefix_len-le-length (λ x. not (p x)) xs

  or_length : (n m : ℕ) → n ≤ m → unwrap_or (cond (nat_lt n m) (Some n) None) m ≡ n
  or_length n m h = by (nat_lt n m) refl
    where
      by : (b : Bool) → nat_lt n m ≡ b → unwrap_or (cond b (Some n) None) m ≡ n
      by true e = refl
      by false e = grind (arith, nat_tests)

  pub place_or_length : (xs : List X) → unwrap_or (position p xs) (length xs) ≡ position_or_len p xs
  place_or_length xs = or_length (position_or_len p xs) (length xs) (place_within xs)
