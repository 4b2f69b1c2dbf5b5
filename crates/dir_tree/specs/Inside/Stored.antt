-- Values and attributes as they are stored, and the finite maps that they stand for.
use Rattle.std.specs.Prelude.{ℕ, Bool, List, map, Option, Some, None, true, false, []}
use Rattle.std.specs.FinMap as fin
use Rattle.dir_names.specs.Attr.{Attr}
use Rattle.dir_names.specs.Orders.{attr_cmp}
use Rattle.dir_names.specs.Sorted.{rises}
use Rattle.dir_names.specs.Values.{value_key_cmp}
use Rattle.dir_names.specs.declared.value.ValueKey.{ValueKey}
use Rattle.dir_names.specs.declared.value.ValueKey.TheVariants.{Text, Name}
use Rattle.dir_tree.specs.Content.{Stored, StoredValues, StoredAttributes, Keyed}

-- the bytes of a value: those that are stored or, if none are, those of its key
abbrev pub kept_bytes : ValueKey → Option (List ℕ) → List ℕ
kept_bytes key (Some bytes) = bytes
kept_bytes (Text text) None = text
kept_bytes (Name name) None = []

-- whether there are such bytes: the key of a name has none
abbrev pub has_bytes : ValueKey → Option (List ℕ) → Bool
has_bytes key (Some bytes) = true
has_bytes (Text text) None = true
has_bytes (Name name) None = false

-- a value as it is stored: its key and its bytes
abbrev pub value_pair : ValueKey × List ℕ → ValueKey × List ℕ
value_pair value = value

-- whether values are in strictly rising order of their keys
abbrev pub are_rising : List (ValueKey × List ℕ) → Bool
are_rising values = rises value_key_cmp (map (λ value. (value_pair value).0) values)

-- the map of values in order
abbrev pub values_in : List (ValueKey × List ℕ) → StoredValues
values_in values = fin.from_sorted (map value_pair values)

abbrev pub attribute_pair : Keyed → Attr × Stored
attribute_pair attribute = (attribute.key, attribute.stored)

-- whether attributes are in strictly rising order of their keys
abbrev pub attributes_rise : List Keyed → Bool
attributes_rise attributes = rises attr_cmp (map (λ attribute. (attribute_pair attribute).0) attributes)

-- the map of attributes in order
abbrev pub attributes_in : List Keyed → StoredAttributes
attributes_in attributes = fin.from_sorted (map attribute_pair attributes)
