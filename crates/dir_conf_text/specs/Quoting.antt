-- How arguments are written, so that they are read as they are (slapd.conf(5), "GENERAL FORMAT").
use Rattle.std.specs.Prelude.{◌≡◌, ℕ, Bool, true, false, not, cond, ◌&&◌, ◌||◌, ◌==◌, nat_lt, List, [], ◌∷◌, ◌++◌, map, Some}
use Rattle.std.specs.List.{flat_map, list_all}
use Rattle.dir_names.specs.Ascii.{space, double_quote, backslash}
use Rattle.dir_conf_text.specs.Arguments.{arguments_of}

-- a byte with a backslash before it
abbrev pub is_escaped : ℕ → Bool
is_escaped b = b == double_quote || b == backslash

abbrev pub is_bare_byte : ℕ → Bool
is_bare_byte b = nat_lt 32 b && not (is_escaped b)

-- an argument that can stand without quotes
abbrev pub is_bare : List ℕ → Bool
is_bare [] = false
is_bare (b ∷ bs) = list_all is_bare_byte (b ∷ bs)

abbrev pub escaped : ℕ → List ℕ
escaped b = cond (is_escaped b) (backslash ∷ b ∷ []) (b ∷ [])

abbrev pub quoted : List ℕ → List ℕ
quoted argument = cond (is_bare argument) argument (double_quote ∷ flat_map escaped argument ++ double_quote ∷ [])

-- an argument after another
abbrev pub preceded : List ℕ → List ℕ
preceded argument = space ∷ quoted argument

-- a law: a line of a word that can stand without quotes, and of arguments as they are written, has these arguments
abbrev pub WrittenArgumentsAreRead : Type 0
WrittenArgumentsAreRead = (word : List ℕ) (arguments : List (List ℕ)) → is_bare word ≡ true → arguments_of (word ++ flat_map preceded arguments) ≡ Some word ∷ map Some arguments
