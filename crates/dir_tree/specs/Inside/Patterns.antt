-- How the lines of an entry are arranged, and what an attribute's lines add to values.
use Rattle.std.specs.Prelude.{◌≡◌, ◌<◌, ◌≤◌, ℕ, true, nat_eq, List, [], ◌++◌, Ok, Result, Some, IsTrue, length, map, slice_get}
use Rattle.std.specs.FinMap as fin
use Rattle.std.specs.List.{All, flat_map, insert, list_any}
use Rattle.std.specs.List.Sorted.{IsPermutation}
use Rattle.dir_names.specs.Attr.{Attr}
use Rattle.dir_names.specs.Described.{Described}
use Rattle.dir_names.specs.NameKeys.{value_key_of}
use Rattle.dir_names.specs.Names.{SpelledRdn}
use Rattle.dir_names.specs.Results.{and_then}
use Rattle.dir_names.specs.declared.schema.TypeRow.{TypeRow}
use Rattle.dir_names.specs.declared.value.ValueKey.{ValueKey}
use Rattle.dir_tree.specs.declared.fault.EntryFault.{EntryFault}
use Rattle.dir_tree.specs.declared.lines.KeyedLine.{KeyedLine}
use Rattle.dir_tree.specs.declared.packed.PackedAttribute.{PackedAttribute}
use Rattle.dir_tree.specs.Content.{Keyed, StoredAttributes}
use Rattle.dir_tree.specs.Inside.Packed.{IsPacked, packed_attribute}
use Rattle.dir_tree.specs.Inside.Stored.{are_rising}
use Rattle.dir_tree.specs.NewEntry.{attributes_of, keyed_lines, rdn_lines, with_missing_of}

-- each number below the length of the list is in it
abbrev pub HasEach : List ℕ → Type 0
HasEach numbers = (i : ℕ) → i < length numbers → list_any (nat_eq i) numbers ≡ true

-- a value with its key, as a line of this description
abbrev pub line_with : Described → ValueKey × List ℕ → KeyedLine
line_with d value = record { description = d; key = value.0; bytes = value.1 }

-- the values of an attribute as lines
abbrev pub keyed_values : Keyed → List KeyedLine
keyed_values a = map (line_with (record { spelling = a.stored.spelling; key = a.key })) (fin.entries a.stored.values)

-- the values of all attributes as lines
abbrev pub lines_of : List Keyed → List KeyedLine
lines_of attributes = flat_map keyed_values attributes

abbrev pub HasValues : Keyed → Type 0
HasValues a = ¬ (fin.entries a.stored.values ≡ [])

-- the lines with these numbers
abbrev pub AreAt : List (Described × List ℕ) → List ℕ → List (Described × List ℕ) → Type 0
AreAt lines numbers taken = map (slice_get lines) numbers ≡ map Some taken

-- a value came to some, in its place among those from an index on
pub record InsertsValue (rows : List TypeRow) (attr : Attr) (bytes : List ℕ) (start : ℕ) (old now : List (ValueKey × List ℕ)) : Type 0 where
  pub key : ValueKey
  pub at : ℕ
  pub keyed : value_key_of rows attr bytes ≡ Ok key
  pub after : start ≤ at
  pub inside : at ≤ length old
  pub is : now ≡ insert old at (key, bytes)

-- the values of the lines with these numbers, which are lines of an attribute, came to some, in whatever order
pub record TakesLines (rows : List TypeRow) (lines : List (Described × List ℕ)) (a : PackedAttribute) (numbers : List ℕ) (old now : List (ValueKey × List ℕ)) : Type 0 where
  pub taken : List (Described × List ℕ)
  pub values : List (ValueKey × List ℕ)
  pub new : List (ValueKey × List ℕ)
  pub are_at : AreAt lines numbers taken
  pub keyed : keyed_lines rows taken ≡ Some (map (line_with a.description) values)
  pub order : IsPermutation values new
  pub is : now ≡ old ++ new

-- the same for all values of an attribute, which are in rising order then
pub record AddsLines (rows : List TypeRow) (lines : List (Described × List ℕ)) (a : PackedAttribute) (numbers : List ℕ) (old now : List (ValueKey × List ℕ)) : Type 0 where
  pub takes : TakesLines rows lines a numbers old now
  pub rise : IsTrue (are_rising takes.new)
  pub from : a.start ≡ length old
  pub to : a.end ≡ length now
  pub some : ¬ (takes.new ≡ [])

-- the attributes that were made of the lines with some numbers, in whatever order, among them those that come still
pub record Gathers (rows : List TypeRow) (lines : List (Described × List ℕ)) (order rest : List ℕ) (attrs : List PackedAttribute) (common own : List (ValueKey × List ℕ)) : Type 0 where
  pub done : List ℕ
  pub taken : List (Described × List ℕ)
  pub made : List KeyedLine
  pub split : order ≡ done ++ rest
  pub are_at : AreAt lines done taken
  pub keyed : keyed_lines rows taken ≡ Some made
  pub same : IsPermutation made (lines_of (map (packed_attribute common own) attrs))
  pub packed : All (IsPacked common own) attrs
  pub some : All HasValues (map (packed_attribute common own) attrs)

-- the attributes that lines give, with the values of an RDN that no line gives
abbrev pub attributes_named : List TypeRow → SpelledRdn → List (Described × List ℕ) → Result StoredAttributes EntryFault
attributes_named rows rdn lines = and_then (attributes_of rows lines) (λ xs. Ok (with_missing_of xs (rdn_lines rows rdn)))
