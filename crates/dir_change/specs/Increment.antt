-- What an increment makes of values (RFC 4525): the sum of each and the amount, in decimal. RFC 4525 sets no range; here it is that of 128 bits.
use Rattle.std.specs.Prelude.{ℕ, ◌^◌, Bool, cond, not, ◌&&◌, ◌==◌, List, length, ℤ, pos, neg_ℤ, ◌+ℤ◌, int_lt, Option, Some, None, option_and_then}
use Rattle.std.specs.FinMap as fin
use Rattle.std.specs.Fmt.{signed_decimal}
use Rattle.std.specs.Str.{all_ascii_digits}
use Rattle.std.specs.Str.Parse.{signed_digits_value, without_leading_sign}
use Rattle.dir_names.specs.declared.value.ValueKey.{ValueKey}
use Rattle.dir_names.specs.declared.value.ValueKey.TheVariants.{Text}
use Rattle.dir_names.specs.Results.{option_collect}
use Rattle.dir_tree.specs.Content.{StoredValues}

-- from the least to the greatest number of 128 bits
abbrev pub fits_128 : ℤ → Bool
fits_128 z = not (int_lt z (neg_ℤ (pos (2 ^ 127)))) && int_lt z (pos (2 ^ 127))

-- a sign or none, and then digits
abbrev pub is_numeral : List ℕ → Bool
is_numeral text = not (length (without_leading_sign text) == 0) && all_ascii_digits (without_leading_sign text)

-- the number that a text writes, if it is one of 128 bits
abbrev pub number_within : List ℕ → Option ℤ
number_within text = cond (is_numeral text && fits_128 (signed_digits_value 10 text)) (Some (signed_digits_value 10 text)) None

-- the text of a number of 128 bits
abbrev pub text_within : ℤ → Option (List ℕ)
text_within z = cond (fits_128 z) (Some (signed_decimal z)) None

-- the text of the sum of the amount and a value
abbrev pub sum_text : ℤ → List ℕ → Option (List ℕ)
sum_text amount value = option_and_then (λ number. text_within (amount +ℤ number)) (number_within value)

-- an integer is its own key (RFC 4517, section 4.2.19)
abbrev pub keyed_integer : List ℕ → ValueKey × List ℕ
keyed_integer text = (Text text, text)

-- the texts of the sums of the amount and each value, if all are of 128 bits
abbrev pub sums : ℤ → StoredValues → Option (List (List ℕ))
sums amount values = option_collect (λ p. sum_text amount p.1) (fin.entries values)
