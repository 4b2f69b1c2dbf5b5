-- How control characters are shown.
use Rattle.std.specs.Prelude.{ℕ, ◌+◌, ◌/◌, ◌%◌, List, [], ◌∷◌, ◌++◌, codes, cond, nat_lt}
use Rattle.std.specs.Char.{encode_utf8, is_control}
use Rattle.std.specs.Str.{chars}

-- `0` to `9`, `a` to `f`
abbrev pub hex_digit : ℕ → ℕ
hex_digit n = cond (nat_lt n 10) (48 + n) (87 + n)

-- a control character (U+0000 to U+001F, U+007F to U+009F) by `\x` and the two hexadecimal digits of its code, every other one as it is
abbrev pub shown_char : ℕ → List ℕ
shown_char c = cond (is_control c) (codes "\\x" ++ hex_digit (c / 16) ∷ hex_digit (c % 16) ∷ []) (encode_utf8 c)

abbrev pub shown_chars : List ℕ → List ℕ
shown_chars [] = []
shown_chars (c ∷ cs) = shown_char c ++ shown_chars cs

-- a text as a message shows it
abbrev pub escaped : List ℕ → List ℕ
escaped text = shown_chars (chars text)
