-- The content of an entry (RFC 4512, sections 2.2 and 2.3): its own name as spelled, and its attributes, each with its values, as finite maps.
use Rattle.std.specs.Prelude.{ℕ, Bool, List, Option, Some, None, false}
use Rattle.std.specs.FinMap as fin
use Rattle.dir_names.specs.Attr.{Attr}
use Rattle.dir_names.specs.Orders.{attr_cmp}
use Rattle.dir_names.specs.Values.{value_key_cmp}
use Rattle.dir_names.specs.declared.value.ValueKey.{ValueKey}

-- the stored bytes of each value, under its key
abbrev pub StoredValues : Type 0
StoredValues = fin.FinMap value_key_cmp (List ℕ)

-- an attribute: its description as spelled, and its values
pub record Stored : Type 0 where
  pub spelling : List ℕ
  pub values : StoredValues

-- the attributes of an entry, under the keys of their descriptions
abbrev pub StoredAttributes : Type 0
StoredAttributes = fin.FinMap attr_cmp Stored

-- an attribute with the key of its description
pub record Keyed : Type 0 where
  pub key : Attr
  pub stored : Stored

-- whether the attribute is there and has the value
abbrev pub has_in : ValueKey → Option Stored → Bool
has_in value None = false
has_in value (Some stored) = fin.contains_key stored.values value

abbrev pub has_value : StoredAttributes → Attr → ValueKey → Bool
has_value attributes attr value = has_in value (fin.get attributes attr)

-- the content of an entry. Its own name is one RDN, or, for the entry of the suffix, the whole suffix, leaf first; the key is that of the leaf RDN
pub record Content : Type 0 where
  pub own : List (List (List ℕ × List ℕ))
  pub key : List (Attr × List ℕ)
  pub attributes : StoredAttributes
