-- The text of a name (RFC 4514, section 2), in the form that this kit prints: ASCII, each escape as a backslash and two digits.
use Rattle.std.specs.Prelude.{ℕ, ◌+◌, ◌/◌, ◌%◌, Bool, cond, ◌||◌, ◌==◌, nat_lt, List, [], ◌∷◌, ◌++◌, map}
use Rattle.std.specs.List.{join_with_byte}
use Rattle.dir_names.specs.Ascii.{space, sharp, plus, comma, equals_sign, backslash}
use Rattle.dir_names.specs.Names.{SpelledPair, SpelledRdn, SpelledName}
use Rattle.dir_names.specs.Names.Escapes.{is_refused_sign}

-- the upper-case hexadecimal digit of a number below 16
abbrev pub upper_digit : ℕ → ℕ
upper_digit n = cond (nat_lt n 10) (n + 48) (n + 55)

abbrev pub escape_of : ℕ → List ℕ
escape_of b = backslash ∷ upper_digit (b / 16) ∷ upper_digit (b % 16) ∷ []

-- what is escaped anywhere in a value: the signs of `is_refused_sign`, and what is not printable ASCII
abbrev pub is_special : ℕ → Bool
is_special b = (nat_lt b 32 || nat_lt 126 b) || is_refused_sign b

abbrev pub printed_byte : ℕ → List ℕ
printed_byte b = cond (is_special b) (escape_of b) (b ∷ [])

-- a value after its first byte: a space at the end is escaped
abbrev pub printed_rest : List ℕ → List ℕ
printed_rest [] = []
printed_rest (b ∷ []) = cond (b == space) (escape_of b) (printed_byte b)
printed_rest (b ∷ c ∷ bs) = printed_byte b ++ printed_rest (c ∷ bs)

-- a space or a `#` at the start is escaped
abbrev pub printed_value : List ℕ → List ℕ
printed_value [] = []
printed_value (b ∷ bs) = cond (b == space || b == sharp) (escape_of b) (printed_byte b) ++ printed_rest bs

abbrev pub printed_pair : SpelledPair → List ℕ
printed_pair p = p.0 ++ equals_sign ∷ printed_value p.1

abbrev pub printed_rdn : SpelledRdn → List ℕ
printed_rdn rdn = join_with_byte plus (map printed_pair rdn)

abbrev pub printed_name : SpelledName → List ℕ
printed_name name = join_with_byte comma (map printed_rdn name)
