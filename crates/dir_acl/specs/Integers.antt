-- Integers of any length, as texts (RFC 4517, section 3.3.16), and how they compare (sections 4.2.19 and 4.2.20).
use Rattle.std.specs.Prelude.{ℕ, ◌+◌, ◌-◌, ◌*◌, Bool, not, cond, ◌&&◌, ◌==◌, List, [], ◌∷◌, ℤ, pos, neg_ℤ, int_lt}
use Rattle.dir_names.specs.Ascii.{hyphen, digit_zero}
use Rattle.dir_names.specs.ValueKeys.{is_integer}

-- the number of decimal digits after those of n
abbrev pub number_after : ℕ → List ℕ → ℕ
number_after n [] = n
number_after n (d ∷ ds) = number_after (n * 10 + (d - digit_zero)) ds

abbrev pub number_of : List ℕ → ℕ
number_of digits = number_after 0 digits

-- a text with or without a minus
abbrev pub integer_of : List ℕ → ℤ
integer_of [] = pos 0
integer_of (b ∷ bs) = cond (b == hyphen) (neg_ℤ (pos (number_of bs))) (pos (number_of (b ∷ bs)))

-- both are integers, and the text is at least the bound; at most the bound
abbrev pub is_at_least : List ℕ → List ℕ → Bool
is_at_least bound text = is_integer bound && is_integer text && not (int_lt (integer_of text) (integer_of bound))

abbrev pub is_at_most : List ℕ → List ℕ → Bool
is_at_most bound text = is_integer bound && is_integer text && not (int_lt (integer_of bound) (integer_of text))
