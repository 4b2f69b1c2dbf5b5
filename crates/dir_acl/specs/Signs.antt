-- The codes of the signs of filters (RFC 4515, section 3), beside those of `dir_names/specs/Ascii`.
use Rattle.std.specs.Prelude.{ℕ}

abbrev pub exclamation_mark : ℕ
exclamation_mark = 33

abbrev pub ampersand : ℕ
ampersand = 38

abbrev pub open_parenthesis : ℕ
open_parenthesis = 40

abbrev pub close_parenthesis : ℕ
close_parenthesis = 41

abbrev pub asterisk : ℕ
asterisk = 42

abbrev pub vertical_bar : ℕ
vertical_bar = 124

abbrev pub tilde : ℕ
tilde = 126
