-- Keywords of a slapd.conf (slapd.conf(5)).
use Rattle.std.specs.Prelude.{ℕ, Bool, List}
use Rattle.std.specs.Str.{str_eq_ignore_ascii_case}

-- a keyword, in any ASCII case
abbrev pub is_word : List ℕ → List ℕ → Bool
is_word text word = str_eq_ignore_ascii_case text word
