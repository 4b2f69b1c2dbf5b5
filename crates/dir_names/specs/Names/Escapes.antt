-- The bytes that a value of a name has only as escapes, and how an escape is written (RFC 4514, sections 2.4 and 3).
use Rattle.std.specs.Prelude.{ℕ, ◌-◌, Bool, cond, ◌&&◌, ◌||◌, ◌==◌, nat_le}
use Rattle.dir_names.specs.Ascii.{nul, space, double_quote, sharp, plus, comma, semicolon, less_than, equals_sign, greater_than, backslash}

-- `"` `+` `,` `;` `<` `>` `\`
abbrev pub is_refused_sign : ℕ → Bool
is_refused_sign b = (b == double_quote || b == plus) || ((b == comma || b == semicolon) || ((b == less_than || b == greater_than) || b == backslash))

-- what a value has only as an escape: those signs and NUL
abbrev pub is_refused : ℕ → Bool
is_refused b = is_refused_sign b || b == nul

-- what a backslash may escape by itself: space `#` `=` and those signs
abbrev pub is_escapable : ℕ → Bool
is_escapable b = is_refused_sign b || (b == space || (b == sharp || b == equals_sign))

-- a hexadecimal digit: 0 to 9, A to F, a to f
abbrev pub is_hex : ℕ → Bool
is_hex b = (nat_le 48 b && nat_le b 57) || ((nat_le 65 b && nat_le b 70) || (nat_le 97 b && nat_le b 102))

-- its number
abbrev pub hex_of : ℕ → ℕ
hex_of b = cond (nat_le b 57) (b - 48) (cond (nat_le b 70) (b - 55) (b - 87))
