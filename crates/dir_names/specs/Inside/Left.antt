-- What is left of a text that a loop splits at a separator.
use Rattle.std.specs.Prelude.{ℕ, Bool, false, not, ◌==◌, List, [], Option, Some, None}
use Rattle.std.specs.List.{list_all}
use Rattle.dir_names.specs.Ascii.{nul}
use Rattle.dir_names.specs.Cut.{parts_at}
use Rattle.dir_names.specs.Names.Reading.{pieces}

-- the parts of the rest of the text, if there is a rest
abbrev pub parts_left : ℕ → Option (List ℕ) → List (List ℕ)
parts_left separator None = []
parts_left separator (Some text) = parts_at separator text

-- the options of a key, which it keeps in order and joined by bytes 0, if it has any
abbrev pub options_joined : Option (List ℕ) → List (List ℕ)
options_joined = parts_left nul

-- a text that can be joined so
abbrev pub lacks_nul : List ℕ → Bool
lacks_nul text = list_all (λ b. not (b == nul)) text

-- the same as parts_left, where a backslash may escape a separator
abbrev pub pieces_left : ℕ → Option (List ℕ) → List (List ℕ)
pieces_left separator None = []
pieces_left separator (Some text) = pieces separator false text
