-- Texts split at a separator.
use Rattle.std.specs.Prelude.{ℕ, cond, nat_lt, List, ◌==◌, length, Option, Some, None}
use Rattle.std.specs.List.{slice_split, position_or_len, after_first}

-- the parts of a text between separators
abbrev pub parts_at : ℕ → List ℕ → List (List ℕ)
parts_at separator text = slice_split (λ b. b == separator) text

-- what follows the first separator, if there is one
abbrev pub after_first_separator : ℕ → List ℕ → Option (List ℕ)
after_first_separator separator text = cond (nat_lt (position_or_len (λ b. b == separator) text) (length text)) (Some (after_first (λ b. b == separator) text)) None
