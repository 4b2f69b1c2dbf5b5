-- The entry that an add makes (RFC 4511, section 4.7): the values of its lines, and those of its own RDN that no line gives.
use Rattle.std.specs.Prelude.{◌≡◌, ℕ, Bool, true, cond, not, ◌&&◌, nat_lt, List, [], ◌∷◌, Option, Some, None, option_map, option_and_then, ok_or, Result, Ok, Err, ⊤}
use Rattle.std.specs.List.{list_any}
use Rattle.std.specs.Result.{result_ok}
use Rattle.std.specs.FinMap as fin
use Rattle.dir_names.specs.declared.fault.NameFault.{NameFault}
use Rattle.dir_names.specs.declared.fault.NameFault.TheVariants as name
use Rattle.dir_names.specs.declared.schema.TypeRow.{TypeRow}
use Rattle.dir_names.specs.declared.value.ValueKey.TheVariants.{Text}
use Rattle.dir_names.specs.Described.{Described}
use Rattle.dir_names.specs.Keys.{RdnKeys}
use Rattle.dir_names.specs.Names.{SpelledPair, SpelledRdn, SpelledName}
use Rattle.dir_names.specs.NameKeys.{pair_key, rdn_key, value_key_of}
use Rattle.dir_names.specs.Orders.{attr_eq}
use Rattle.dir_names.specs.Results.{and_then, option_collect, Meets}
use Rattle.dir_names.specs.Table.{single_of}
use Rattle.dir_names.specs.Values.{value_key_eq}
use Rattle.dir_tree.specs.declared.fault.EntryFault.{EntryFault}
use Rattle.dir_tree.specs.declared.fault.EntryFault.TheVariants.{BadValue, Twice, NotNamed, Single, Memory}
use Rattle.dir_tree.specs.declared.lines.KeyedLine.{KeyedLine}
use Rattle.dir_tree.specs.Content.{Content, Stored, StoredAttributes, has_value}

-- a line with the key of its value, if the value has a key
abbrev pub keyed_line : List TypeRow → Described × List ℕ → Option KeyedLine
keyed_line rows line = option_map (λ key. record { description = line.0; key = key; bytes = line.1 }) (result_ok (value_key_of rows line.0.key line.1))

-- the lines with their keys, if each value has a key
abbrev pub keyed_lines : List TypeRow → List (Described × List ℕ) → Option (List KeyedLine)
keyed_lines rows lines = option_collect (keyed_line rows) lines

-- the two lines give one attribute one value
abbrev pub give_same_value : KeyedLine → KeyedLine → Bool
give_same_value l m = attr_eq l.description.key m.description.key && value_key_eq l.key m.key

-- no attribute is given a value twice
abbrev pub give_distinct_values : List KeyedLine → Bool
give_distinct_values [] = true
give_distinct_values (l ∷ ls) = not (list_any (give_same_value l) ls) && give_distinct_values ls

-- an attribute with the value of a line; a new attribute is spelled as in the line
abbrev pub with_value : Option Stored → KeyedLine → Stored
with_value None l = record { spelling = l.description.spelling; values = fin.insert fin.empty l.key l.bytes }
with_value (Some a) l = record { spelling = a.spelling; values = fin.insert a.values l.key l.bytes }

abbrev pub with_line : StoredAttributes → KeyedLine → StoredAttributes
with_line xs l = fin.insert xs l.description.key (with_value (fin.get xs l.description.key) l)

-- the attributes with the values of all lines
abbrev pub with_lines : StoredAttributes → List KeyedLine → StoredAttributes
with_lines xs [] = xs
with_lines xs (l ∷ ls) = with_lines (with_line xs l) ls

-- the attributes and one of this description, which has no values if it is new
abbrev pub with_description : StoredAttributes → Described → StoredAttributes
with_description xs d = cond (fin.contains_key xs d.key) xs (fin.insert xs d.key (record { spelling = d.spelling; values = fin.empty }))

-- the lines that the pairs of an RDN stand for, if their values have keys
abbrev pub pair_line : List TypeRow → SpelledPair → Option KeyedLine
pair_line rows p = option_map (λ key. record { description = record { spelling = p.0; key = key.0 }; key = Text key.1; bytes = p.1 }) (pair_key rows p)

abbrev pub rdn_lines : List TypeRow → SpelledRdn → Option (List KeyedLine)
rdn_lines rows rdn = option_collect (pair_line rows) rdn

-- the attributes with the value of a line, unless it is there already: then it keeps its stored bytes
abbrev pub with_missing_line : StoredAttributes → KeyedLine → StoredAttributes
with_missing_line xs l = cond (has_value xs l.description.key l.key) xs (with_line xs l)

-- the same for all lines
abbrev pub with_missing_lines : StoredAttributes → List KeyedLine → StoredAttributes
with_missing_lines xs [] = xs
with_missing_lines xs (l ∷ ls) = with_missing_lines (with_missing_line xs l) ls

abbrev pub with_missing_of : StoredAttributes → Option (List KeyedLine) → StoredAttributes
with_missing_of xs None = xs
with_missing_of xs (Some ls) = with_missing_lines xs ls

-- whether an attribute of a single type has more than one value
abbrev pub exceeds_single_value : List TypeRow → StoredAttributes → Bool
exceeds_single_value rows xs = list_any (λ a. nat_lt 1 (fin.len a.1.values) && single_of rows a.0) (fin.entries xs)

-- the RDN that is the entry's own: the leaf of its own name
abbrev pub leaf_of : SpelledName → Option SpelledRdn
leaf_of [] = None
leaf_of (leaf ∷ above) = Some leaf

-- its key, if there is such an RDN and it has a key
abbrev pub leaf_key : List TypeRow → SpelledName → Option RdnKeys
leaf_key rows own = option_and_then (rdn_key rows) (leaf_of own)

-- the lines that its pairs stand for
abbrev pub leaf_lines : List TypeRow → SpelledName → Option (List KeyedLine)
leaf_lines rows own = option_and_then (rdn_lines rows) (leaf_of own)

-- ---- the entry, or its fault: NotNamed, then BadValue, then Twice, then Single

-- the attributes that lines with keys give; Twice if two lines give one value
abbrev pub attributes_if_distinct : List KeyedLine → Result StoredAttributes EntryFault
attributes_if_distinct ls = cond (give_distinct_values ls) (Ok (with_lines fin.empty ls)) (Err Twice)

-- the attributes that lines give; BadValue if a value has no key
abbrev pub attributes_of : List TypeRow → List (Described × List ℕ) → Result StoredAttributes EntryFault
attributes_of rows lines = and_then (ok_or (keyed_lines rows lines) BadValue) attributes_if_distinct

abbrev pub ok_unless_exceeding : List TypeRow → Content → Result Content EntryFault
ok_unless_exceeding rows e = cond (exceeds_single_value rows e.attributes) (Err Single) (Ok e)

abbrev pub new_entry : List TypeRow → SpelledName → List (Described × List ℕ) → Result Content EntryFault
new_entry rows own lines =
    and_then (ok_or (leaf_key rows own) NotNamed) (λ key.
    and_then (attributes_of rows lines) (λ xs.
    ok_unless_exceeding rows (record { own = own; key = key; attributes = with_missing_of xs (leaf_lines rows own) })))

-- ---- what a call that may answer an `EntryFault` meets

module _ {A : Type 0} where
  -- the fault is the definition's, or memory ran out
  abbrev pub IsEntryFaultOf : EntryFault → Result A EntryFault → Type 0
  IsEntryFaultOf BadValue wanted = wanted ≡ Err BadValue
  IsEntryFaultOf Twice wanted = wanted ≡ Err Twice
  IsEntryFaultOf NotNamed wanted = wanted ≡ Err NotNamed
  IsEntryFaultOf Single wanted = wanted ≡ Err Single
  IsEntryFaultOf Memory wanted = ⊤

  -- the answer of a call, seen by `view`, is the definition's, value or fault, unless memory ran out
  abbrev pub Makes : {T : Type 0} → (T → A) → Result T EntryFault → Result A EntryFault → Type 0
  Makes view result wanted = Meets IsEntryFaultOf view result wanted

-- the fault of a call that adds a value: Twice, if the value is there already, or memory ran out
abbrev pub IsTwiceFaultOf : EntryFault → Bool → Type 0
IsTwiceFaultOf Twice there = there ≡ true
IsTwiceFaultOf Memory there = ⊤
IsTwiceFaultOf fault there = ⊥

-- why a value has no key: the value, or memory
abbrev pub entry_fault_of : NameFault → EntryFault
entry_fault_of name.BadDescription = BadValue
entry_fault_of name.ReservedName = BadValue
entry_fault_of name.BadValue = BadValue
entry_fault_of name.BadDn = BadValue
entry_fault_of name.NameLimit = BadValue
entry_fault_of name.Memory = Memory
entry_fault_of name.BadType = BadValue
