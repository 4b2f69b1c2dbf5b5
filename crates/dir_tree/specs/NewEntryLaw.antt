-- What an entry that an add makes holds, as a law on all its lines at once (RFC 4511, section 4.7).
use Rattle.std.specs.Prelude.{◌≡◌, ℕ, Bool, true, ◌&&◌, List, ◌++◌, Option, None, Some, find, option_map, Ok}
use Rattle.std.specs.FinMap as fin
use Rattle.dir_names.specs.declared.schema.TypeRow.{TypeRow}
use Rattle.dir_names.specs.declared.value.ValueKey.{ValueKey}
use Rattle.dir_names.specs.Attr.{Attr}
use Rattle.dir_names.specs.Described.{Described}
use Rattle.dir_names.specs.Names.{SpelledName}
use Rattle.dir_names.specs.Orders.{attr_eq}
use Rattle.dir_names.specs.Values.{value_key_eq}
use Rattle.dir_tree.specs.declared.lines.KeyedLine.{KeyedLine}
use Rattle.dir_tree.specs.Content.{Content, Stored, StoredAttributes}
use Rattle.dir_tree.specs.NewEntry.{give_distinct_values, keyed_lines, leaf_lines, new_entry}

-- the line has this description
abbrev pub is_line_of : Attr → KeyedLine → Bool
is_line_of k l = attr_eq k l.description.key

-- its value has this key
abbrev pub has_value_key : ValueKey → KeyedLine → Bool
has_value_key v l = value_key_eq v l.key

-- it gives this value to this attribute
abbrev pub gives_value : Attr → ValueKey → KeyedLine → Bool
gives_value k v l = is_line_of k l && has_value_key v l

-- how the attribute is spelled, if it is there
abbrev pub spelled_in : Option Stored → Option (List ℕ)
spelled_in None = None
spelled_in (Some a) = Some a.spelling

-- the stored bytes of the value with this key, if it is there
abbrev pub value_in : ValueKey → Option Stored → Option (List ℕ)
value_in v None = None
value_in v (Some a) = fin.get a.values v

-- an attribute is there exactly if a line has its description, and is spelled as in the first of these lines;
-- a value is there exactly if a line gives it, and has the bytes of the first of these lines
abbrev pub HoldsFirst : StoredAttributes → List KeyedLine → Type 0
HoldsFirst xs lines =
    (k : Attr) → (spelled_in (fin.get xs k) ≡ option_map (λ l. l.description.spelling) (find (is_line_of k) lines))
    × ((v : ValueKey) → value_in v (fin.get xs k) ≡ option_map (λ l. l.bytes) (find (gives_value k v) lines))

-- no two of the lines give one value, and the entry holds them, followed by the lines that the pairs of its own RDN stand for, and nothing else
abbrev pub HoldsItsLines : List TypeRow → SpelledName → List (Described × List ℕ) → Content → Type 0
HoldsItsLines rows own lines e =
    (given : List KeyedLine) × (pairs : List KeyedLine)
    × (keyed_lines rows lines ≡ Some given) × (leaf_lines rows own ≡ Some pairs) × (give_distinct_values given ≡ true) × HoldsFirst e.attributes (given ++ pairs)

-- this holds for each new entry
abbrev pub EntriesHoldTheirLines : Type 0
EntriesHoldTheirLines = (rows : List TypeRow) (own : SpelledName) (lines : List (Described × List ℕ)) (e : Content) → new_entry rows own lines ≡ Ok e → HoldsItsLines rows own lines e
