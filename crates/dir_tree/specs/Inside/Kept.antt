-- The attributes of an entry, in the form in which it keeps them.
use Rattle.std.specs.Prelude.{IsTrue, ⊤}
use Rattle.dir_tree.specs.declared.kept.Form.{Form}
use Rattle.dir_tree.specs.declared.kept.Form.TheVariants.{Open, Packed}
use Rattle.dir_tree.specs.Content.{StoredAttributes}
use Rattle.dir_tree.specs.Inside.Stored.{attributes_in, attributes_rise}

abbrev pub kept_attributes : Form → StoredAttributes
kept_attributes (Open map) = map
kept_attributes (Packed attributes) = attributes_in attributes

-- packed attributes are in strictly rising order of their keys
abbrev pub IsInOrder : Form → Type 0
IsInOrder (Open map) = ⊤
IsInOrder (Packed attributes) = IsTrue (attributes_rise attributes)
