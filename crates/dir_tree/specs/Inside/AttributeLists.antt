-- The attributes of an entry as a list: one `Vec` of them, or pieces.
use Rattle.std.specs.Prelude.{ℕ, ◌≤◌, List, length, ⊤}
use Rattle.dir_tree.specs.Content.{Keyed, StoredValues}
use Rattle.dir_tree.specs.declared.attributes.list.FewOrMany.{FewOrMany}
use Rattle.dir_tree.specs.declared.attributes.list.FewOrMany.TheVariants.{Few, InPieces}

abbrev pub list_attributes : FewOrMany → List Keyed
list_attributes (Few attributes) = attributes.items
list_attributes (InPieces pieces) = pieces

-- attributes in one `Vec` are at most so many
abbrev pub AreFew : ℕ → FewOrMany → Type 0
AreFew most (Few attributes) = length attributes.items ≤ most
AreFew most (InPieces pieces) = ⊤

-- an attribute with these values
abbrev pub with_values : Keyed → StoredValues → Keyed
with_values a values = record { key = a.key; stored = record { spelling = a.stored.spelling; values = values } }
