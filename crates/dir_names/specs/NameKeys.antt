-- The key of a name (RFC 4512, section 2.3; RFC 4517, section 4.2.15): the keys of its RDNs, root first, each the set of its pairs of attribute and value key.
use Rattle.std.specs.Prelude.{ℕ, Bool, true, cond, not, ◌&&◌, List, [], ◌∷◌, reverse, Option, Some, None, option_map, option_and_then, Result, Ok, Err}
use Rattle.std.specs.List.{list_any}
use Rattle.std.specs.Result.{result_ok}
use Rattle.dir_names.specs.declared.fault.NameFault.{NameFault}
use Rattle.dir_names.specs.declared.schema.Rule.{Rule}
use Rattle.dir_names.specs.declared.schema.Rule.TheVariants.{Octet, CaseIgnore, Ia5CaseIgnore, Ia5CaseExact, Telephone, Integer, Name, ObjectId}
use Rattle.dir_names.specs.declared.schema.TypeRow.{TypeRow}
use Rattle.dir_names.specs.declared.value.ValueKey.{ValueKey}
use Rattle.dir_names.specs.declared.value.ValueKey.TheVariants as key
use Rattle.dir_names.specs.Attr.{Attr}
use Rattle.dir_names.specs.Keys.{RdnKeys, DnKeys}
use Rattle.dir_names.specs.Names.{SpelledPair, SpelledRdn, SpelledName}
use Rattle.dir_names.specs.Names.Reading.{name_within_limits}
use Rattle.dir_names.specs.Orders.{attr_eq, pair_cmp}
use Rattle.dir_names.specs.Outcome.{ok_or_bad_value}
use Rattle.dir_names.specs.Results.{option_collect}
use Rattle.dir_names.specs.Sorted.{set_of}
use Rattle.dir_names.specs.Table.{type_key_of, rule_of}
use Rattle.dir_names.specs.ValueKeys.{text_key_of}

-- the attribute that a type without options names
abbrev pub attr_of : List TypeRow → List ℕ → Attr
attr_of rows attr_type = record { attr_type = type_key_of rows attr_type; options = [] }

-- the pair of attribute and value key, if the value has a key. A value of a type with the rule Name has none here
abbrev pub pair_key : List TypeRow → SpelledPair → Option (Attr × List ℕ)
pair_key rows pair = option_map (λ value. (attr_of rows pair.0, value)) (result_ok (text_key_of (rule_of rows (attr_of rows pair.0)) pair.1))

-- no two pairs have the same attribute
abbrev pub have_distinct_types : List (Attr × List ℕ) → Bool
have_distinct_types [] = true
have_distinct_types (p ∷ ps) = not (list_any (λ q. attr_eq q.0 p.0) ps) && have_distinct_types ps

abbrev pub set_if_distinct : List (Attr × List ℕ) → Option RdnKeys
set_if_distinct pairs = cond (have_distinct_types pairs) (Some (set_of pair_cmp pairs)) None

-- the key of an RDN: the set of the keys of its pairs, if no type occurs twice (RFC 4512, section 2.3.1)
abbrev pub rdn_key : List TypeRow → SpelledRdn → Option RdnKeys
rdn_key rows rdn = option_and_then set_if_distinct (option_collect (pair_key rows) rdn)

-- the key of a name
abbrev pub name_key : List TypeRow → SpelledName → Option DnKeys
name_key rows name = option_collect (rdn_key rows) (reverse name)

-- the key of a value under the rule Name: that of the name that it spells
abbrev pub name_value_key : List TypeRow → List ℕ → Option DnKeys
name_value_key rows value = option_and_then (name_key rows) (result_ok (name_within_limits value))

abbrev pub as_text : Result (List ℕ) NameFault → Result ValueKey NameFault
as_text (Ok bytes) = Ok (key.Text bytes)
as_text (Err fault) = Err fault

abbrev pub value_key_by : List TypeRow → Rule → List ℕ → Result ValueKey NameFault
value_key_by rows Octet value = as_text (text_key_of Octet value)
value_key_by rows CaseIgnore value = as_text (text_key_of CaseIgnore value)
value_key_by rows Ia5CaseIgnore value = as_text (text_key_of Ia5CaseIgnore value)
value_key_by rows Ia5CaseExact value = as_text (text_key_of Ia5CaseExact value)
value_key_by rows Telephone value = as_text (text_key_of Telephone value)
value_key_by rows Integer value = as_text (text_key_of Integer value)
value_key_by rows Name value = ok_or_bad_value (option_map key.Name (name_value_key rows value))
value_key_by rows ObjectId value = as_text (text_key_of ObjectId value)

-- the key of a value of an attribute
abbrev pub value_key_of : List TypeRow → Attr → List ℕ → Result ValueKey NameFault
value_key_of rows attr value = value_key_by rows (rule_of rows attr) value
