-- Attributes whose values are kept in one text.
use Rattle.std.specs.Prelude.{◌≡◌, ◌≢◌, ◌⊎◌, ℕ, ◌-◌, ◌<◌, ◌≤◌, List, [], Option, Some, None, cond, drop, false, get_or, length, map, slice_get, take, true, IsTrue, ⊤}
use Rattle.dir_names.specs.Keys.{DnKeys}
use Rattle.dir_names.specs.declared.value.ValueKey.{ValueKey}
use Rattle.dir_names.specs.declared.value.ValueKey.TheVariants as value_key
use Rattle.dir_tree.specs.declared.packed.PackedKey.{PackedKey}
use Rattle.dir_tree.specs.declared.packed.PackedKey.TheVariants as packed_key
use Rattle.dir_tree.specs.declared.packed.PackedValue.{PackedValue}
use Rattle.dir_tree.specs.declared.packed.PackedAttribute.{PackedAttribute}
use Rattle.dir_tree.specs.declared.packed.PackedSlice.{PackedSlice}
use Rattle.dir_tree.specs.Content.{Keyed}
use Rattle.dir_tree.specs.Inside.Stored.{are_rising, values_in}

-- the part of a list from one index up to another
abbrev pub part_of : {A : Type 0} → List A → ℕ → ℕ → List A
part_of xs start end = take (end - start) (drop start xs)

-- a name as a key, if there is one
abbrev pub name_or_none : Option DnKeys → ValueKey
name_or_none None = value_key.Text []
name_or_none (Some name) = value_key.Name name

-- the key of the value between two indices of a text, where some keys are names
abbrev pub key_in : List ℕ → List DnKeys → ℕ → ℕ → PackedKey → ValueKey
key_in text names start end packed_key.Same = value_key.Text (part_of text start end)
key_in text names start end (packed_key.Text to) = value_key.Text (part_of text end to)
key_in text names start end (packed_key.Name at) = name_or_none (slice_get names at)

-- a value in a text, with its key
abbrev pub packed_value : List ℕ → List DnKeys → PackedValue → ValueKey × List ℕ
packed_value text names v = (key_in text names v.start v.end v.key, part_of text v.start v.end)

-- the values that are lent
abbrev pub values_of : PackedSlice → List (ValueKey × List ℕ)
values_of slice = map (packed_value slice.pool.text.now slice.pool.names.now) slice.values.now

-- the end of a key that is kept in a text is inside it, and a name is among the names
abbrev pub IsKeyInside : List ℕ → List DnKeys → PackedKey → Type 0
IsKeyInside text names packed_key.Same = ⊤
IsKeyInside text names (packed_key.Text to) = to ≤ length text
IsKeyInside text names (packed_key.Name at) = at < length names

-- a value and its key are inside a text, or its key among the names
abbrev pub IsInside : List ℕ → List DnKeys → PackedValue → Type 0
IsInside text names v = (v.end ≤ length text) × IsKeyInside text names v.key

-- an attribute whose values are some of those that many entries have, or of an entry's own
abbrev pub packed_attribute : List (ValueKey × List ℕ) → List (ValueKey × List ℕ) → PackedAttribute → Keyed
packed_attribute common own a = record { key = a.description.key; stored = record { spelling = a.description.spelling; values = values_in (part_of (cond a.is_common common own) a.start a.end) } }

-- its values are among these, and in strictly rising order of their keys
abbrev pub IsPacked : List (ValueKey × List ℕ) → List (ValueKey × List ℕ) → PackedAttribute → Type 0
IsPacked common own a = (a.end ≤ length (cond a.is_common common own)) × IsTrue (are_rising (part_of (cond a.is_common common own) a.start a.end))

-- the values of another attribute are none of an attribute's own
abbrev pub IsApart : PackedAttribute → PackedAttribute → Type 0
IsApart a other = (other.is_common ≡ true) ⊎ ((other.end ≤ a.start) ⊎ (a.end ≤ other.start))

-- the values of an attribute are an entry's own, and none of them are those of another than the one at this index
abbrev pub IsAlone : PackedAttribute → ℕ → List PackedAttribute → Type 0
IsAlone a at attributes = (a.is_common ≡ false) × (a.start ≤ a.end) × ((i : ℕ) (d : PackedAttribute) → i < length attributes → i ≢ at → IsApart a (get_or attributes i d))
