-- The values of an attribute as they are stored: one alone, a `Vec` of them, or pieces.
use Rattle.std.specs.Prelude.{ℕ, ◌≤◌, List, [], ◌∷◌, length, ⊤}
use Rattle.dir_names.specs.declared.value.ValueKey.{ValueKey}
use Rattle.dir_tree.specs.declared.stored.OneOrMany.{OneOrMany}
use Rattle.dir_tree.specs.declared.stored.OneOrMany.TheVariants.{One, Many, InPieces}

abbrev pub list_values : OneOrMany → List (ValueKey × List ℕ)
list_values (One value) = value ∷ []
list_values (Many values) = values.items
list_values (InPieces pieces) = pieces

-- values in one `Vec` are at most so many
abbrev pub IsShort : ℕ → OneOrMany → Type 0
IsShort most (One value) = ⊤
IsShort most (Many values) = length values.items ≤ most
IsShort most (InPieces pieces) = ⊤
