-- What an attribute description means (RFC 4512, section 2.5): the key of its type, and its options as an ordered list without duplicates.
use Rattle.std.specs.Prelude.{ℕ, Bool, true, false, List, [], ◌∷◌}

pub record Attr : Type 0 where
  pub attr_type : List ℕ
  pub options : List (List ℕ)

abbrev pub are_some : List (List ℕ) → Bool
are_some [] = false
are_some (option ∷ options) = true

-- whether a description has options
abbrev pub has_options : Attr → Bool
has_options attr = are_some attr.options
