-- The decimal text of a number of 128 bits is an integer, since it begins with no zero but where it is `0`; it is short, and of bytes.
use Rattle.std.proofs.Common.{◌≡◌, ℕ, zero, suc, ◌+◌, ◌/◌, ◌%◌, ◌^◌, ◌<◌, ◌≤◌, Bool, true, false, cond, not, ◌&&◌, ◌==◌, List, [], ◌∷◌, ◌++◌, length, ℤ, pos, negsuc, refl, sym, ap, ◌∙◌, true≢false, nat_lt, arith}
use Rattle.std.specs.List.{list_all}
use Rattle.std.specs.Fmt.{decimal, signed_decimal}
use Rattle.std.proofs.lemmas.Bool.Decides.{nat_tests}
use Rattle.std.proofs.lemmas.Fmt.{decimal_by_steps_wide, decimal_digit, length-decimal-le_wide}
use Rattle.dir_names.specs.Descriptions.{is_digit}
use Rattle.dir_names.specs.ValueKeys.{is_integer, is_positive}
use Rattle.dir_tree.specs.WellFormed.{are_bytes}
use Rattle.dir_change.specs.Increment.{fits_128}

-- a positive number's text begins with a digit other than zero
abbrev IsPositive : ℕ → List ℕ → Type 0
IsPositive n ds = 0 < n → is_positive ds ≡ true

digit_is : (n : ℕ) → n < 10 → is_digit (48 + n) ≡ true
digit_is n h = grind (arith, nat_tests)

all_and : (xs : List ℕ) (d : ℕ) → list_all is_digit xs ≡ true → is_digit d ≡ true → list_all is_digit (xs ++ (d ∷ [])) ≡ true
all_and [] d h k = ap (λ b. b && true) k
all_and (x ∷ xs) d h k = by (is_digit x) h (λ rest. all_and xs d rest k)
  where
    by : (b : Bool) → (b && list_all is_digit xs) ≡ true → (list_all is_digit xs ≡ true → list_all is_digit (xs ++ (d ∷ [])) ≡ true) → (b && list_all is_digit (xs ++ (d ∷ []))) ≡ true
    by true e more = more e
    by false e more = absurd (true≢false (sym e))

one_digit : (n : ℕ) → n < 10 → IsPositive n ((48 + n) ∷ [])
one_digit n low above = λ i. not (other i) && (digit_is n low i && true)
  where
    other : ((48 + n) == 48) ≡ false
    other = grind (arith, nat_tests)

more_digits : (n : ℕ) (ds : List ℕ) → 10 ≤ n → IsPositive (n / 10) ds → IsPositive n (ds ++ ((48 + n % 10) ∷ []))
more_digits n [] many rest above = absurd (true≢false (sym (rest (omega arith))))
more_digits n (d ∷ ds) many rest above = by (not (d == 48)) (rest (omega arith))
  where
    by : (b : Bool) → (b && list_all is_digit (d ∷ ds)) ≡ true → (b && list_all is_digit ((d ∷ ds) ++ ((48 + n % 10) ∷ []))) ≡ true
    by true e = all_and (d ∷ ds) (48 + n % 10) e (digit_is (n % 10) (omega arith))
    by false e = absurd (true≢false (sym e))

pub positive_decimal : (n : ℕ) → 0 < n → n < 10 ^ 64 → is_positive (decimal n) ≡ true
positive_decimal n above low = decimal_by_steps_wide IsPositive one_digit more_digits n low above

-- a text that is positive is an integer, and so it is after a minus
positive_integer : (ds : List ℕ) → is_positive ds ≡ true → is_integer ds ≡ true
positive_integer [] h = absurd (true≢false (sym h))
positive_integer (d ∷ ds) h = by (d == 48) (d == 45) refl refl
  where
    by : (z m : Bool) → (d == 48) ≡ z → (d == 45) ≡ m → is_integer (d ∷ ds) ≡ true
    by true m t u = absurd (true≢false (sym (sym (ap (λ b. not b && list_all is_digit (d ∷ ds)) t) ∙ h)))
    by false false t u = (λ i. cond (t i) (length ds == 0) (cond (u i) (is_positive ds) (is_positive (d ∷ ds)))) ∙ h
    by false true t u = absurd (true≢false (sym (sym (λ i. not (t i) && (low i && list_all is_digit ds)) ∙ h)))
      where
        low : is_digit d ≡ false
        low = grind (arith, nat_tests)

-- the absolute value of a negative number of 128 bits has at most 64 digits
up_to_128 : (n : ℕ) → fits_128 (negsuc n) ≡ true → suc n < 10 ^ 64
up_to_128 n h = let less : n < 2 ^ 127 = grind (arith, nat_tests) in omega arith

-- ---- its bytes and its length

digit_byte : (d : ℕ) → is_digit d ≡ true → nat_lt d 256 ≡ true
digit_byte d h = grind (arith, nat_tests)

digits_bytes : (ds : List ℕ) → list_all is_digit ds ≡ true → list_all (λ b. nat_lt b 256) ds ≡ true
digits_bytes [] h = refl
digits_bytes (d ∷ ds) h = by (is_digit d) refl h (λ rest. digits_bytes ds rest)
  where
    by : (b : Bool) → is_digit d ≡ b → (b && list_all is_digit ds) ≡ true → (list_all is_digit ds ≡ true → list_all (λ b. nat_lt b 256) ds ≡ true) → (nat_lt d 256 && list_all (λ b. nat_lt b 256) ds) ≡ true
    by true t e more = λ i. digit_byte d t i && more e i
    by false t e more = absurd (true≢false (sym e))

positive_bytes : (ds : List ℕ) → is_positive ds ≡ true → list_all (λ b. nat_lt b 256) ds ≡ true
positive_bytes [] h = absurd (true≢false (sym h))
positive_bytes (d ∷ ds) h = digits_bytes (d ∷ ds) (by (not (d == 48)) h)
  where
    by : (b : Bool) → (b && list_all is_digit (d ∷ ds)) ≡ true → list_all is_digit (d ∷ ds) ≡ true
    by true e = e
    by false e = absurd (true≢false (sym e))

pub decimal_bytes : (z : ℤ) → fits_128 z ≡ true → are_bytes (signed_decimal z) ≡ true
decimal_bytes (pos zero) h = ap (list_all (λ b. nat_lt b 256)) (decimal_digit 0 (omega arith))
decimal_bytes (pos (suc n)) h = positive_bytes (decimal (suc n)) (positive_decimal (suc n) (omega arith) (low n h))
  where
    low : (n : ℕ) → fits_128 (pos (suc n)) ≡ true → suc n < 10 ^ 64
    low n h = let less : suc n < 2 ^ 127 = grind (arith, nat_tests) in omega arith
decimal_bytes (negsuc n) h = positive_bytes (decimal (suc n)) (positive_decimal (suc n) (omega arith) (up_to_128 n h))

pub decimal_short : (z : ℤ) → fits_128 z ≡ true → length (signed_decimal z) ≤ 1048576
decimal_short (pos n) h = let few = length-decimal-le_wide 64 n (omega arith) (low n h) (low n h) in omega arith
  where
    low : (n : ℕ) → fits_128 (pos n) ≡ true → n < 10 ^ 64
    low n h = let less : n < 2 ^ 127 = grind (arith, nat_tests) in omega arith
decimal_short (negsuc n) h = let few = length-decimal-le_wide 64 (suc n) (omega arith) (up_to_128 n h) (up_to_128 n h) in omega arith

pub decimal_integer : (z : ℤ) → fits_128 z ≡ true → is_integer (signed_decimal z) ≡ true
decimal_integer (pos zero) h = ap is_integer (decimal_digit 0 (omega arith))
decimal_integer (pos (suc n)) h = positive_integer (decimal (suc n)) (positive_decimal (suc n) (omega arith) (low n h))
  where
    low : (n : ℕ) → fits_128 (pos (suc n)) ≡ true → suc n < 10 ^ 64
    low n h = let less : suc n < 2 ^ 127 = grind (arith, nat_tests) in omega arith
decimal_integer (negsuc n) h = positive_decimal (suc n) (omega arith) (low n h)
  where
    low : (n : ℕ) → fits_128 (negsuc n) ≡ true → suc n < 10 ^ 64
    low n h = let less : n < 2 ^ 127 = grind (arith, nat_tests) in omega arith
