-- The modify operation on an entry (RFC 4511, section 4.6): each modification changes what the entry has under one key.
use Rattle.std.specs.Prelude.{ℕ, Bool, true, false, not, ◌&&◌, ◌||◌, List, [], ◌∷◌, map, Option, Some, None, is_some, option_map, ok_or, Result, Ok, Err}
use Rattle.std.specs.List.{list_all, list_any}
use Rattle.std.specs.Result.{result_ok}
use Rattle.std.specs.FinMap as fin
use Rattle.dir_names.specs.declared.schema.Rule.{Rule}
use Rattle.dir_names.specs.declared.schema.Rule.TheVariants.{Integer}
use Rattle.dir_names.specs.declared.schema.TypeRow.{TypeRow}
use Rattle.dir_names.specs.declared.value.ValueKey.{ValueKey}
use Rattle.dir_names.specs.Attr.{Attr}
use Rattle.dir_names.specs.NameKeys.{value_key_of}
use Rattle.dir_names.specs.Results.{and_then, option_collect}
use Rattle.dir_names.specs.Table.{rule_of}
use Rattle.dir_names.specs.Values.{value_key_cmp}
use Rattle.dir_ldif.specs.declared.records.Mod.{Mod}
use Rattle.dir_ldif.specs.declared.records.ModOp.{ModOp}
use Rattle.dir_ldif.specs.declared.records.ModOp.TheVariants as op
use Rattle.dir_tree.specs.ChangedEntry.{changed_entry}
use Rattle.dir_tree.specs.Content.{Content, Stored, StoredValues, StoredAttributes}
use Rattle.dir_tree.specs.Slots.{slot_of, spelling_or, values_of, with_slot}
use Rattle.dir_change.specs.Increment.{keyed_integer, number_within, sums}
use Rattle.dir_change.specs.Refusals.{entry_or_code, unless}
use Rattle.dir_change.specs.declared.result_code.ResultCode.{ResultCode}
use Rattle.dir_change.specs.declared.result_code.ResultCode.TheVariants.{ProtocolError, NoSuchAttribute, AttributeOrValueExists, InvalidAttributeSyntax, ConstraintViolation}

-- values with their keys, in the order in which a modification gives them
abbrev pub KeyedValues : Type 0
KeyedValues = List (ValueKey × List ℕ)

abbrev pub keyed_value : List TypeRow → Attr → List ℕ → Option (ValueKey × List ℕ)
keyed_value rows k value = option_map (λ key. (key, value)) (result_ok (value_key_of rows k value))

-- the values with their keys, if each has one
abbrev pub keyed_values : List TypeRow → Attr → List (List ℕ) → Option KeyedValues
keyed_values rows k values = option_collect (keyed_value rows k) values

-- whether a value with this key is among those given
abbrev pub is_given : ValueKey → KeyedValues → Bool
is_given v given = is_some (fin.find value_key_cmp v given)

-- no value is given twice
abbrev pub are_distinct : KeyedValues → Bool
are_distinct [] = true
are_distinct (p ∷ ps) = not (is_given p.0 ps) && are_distinct ps

abbrev pub has_any : StoredValues → KeyedValues → Bool
has_any values given = list_any (λ p. fin.contains_key values p.0) given

abbrev pub has_all : StoredValues → KeyedValues → Bool
has_all values given = list_all (λ p. fin.contains_key values p.0) given

-- the values and those given
abbrev pub values_with : StoredValues → KeyedValues → StoredValues
values_with values [] = values
values_with values (p ∷ ps) = values_with (fin.insert values p.0 p.1) ps

-- the values without those given
abbrev pub values_without : StoredValues → KeyedValues → StoredValues
values_without values given = fin.retain_keys values (λ v. not (is_given v given))

-- ---- one modification: what is under its key after it, or its result code

-- the values are keyed, if each has a key under the rule of the type
abbrev pub if_keyed : List TypeRow → Mod → (KeyedValues → Result (Option Stored) ResultCode) → Result (Option Stored) ResultCode
if_keyed rows m next = and_then (ok_or (keyed_values rows m.description.key m.values) InvalidAttributeSyntax) next

-- add: none of the values is there already or given twice. An attribute that is there keeps its spelling
abbrev pub slot_with : Mod → Option Stored → KeyedValues → Result (Option Stored) ResultCode
slot_with m slot given =
    unless (not (are_distinct given) || has_any (values_of slot) given) AttributeOrValueExists
    (Ok (slot_of (spelling_or m.description.spelling slot) (values_with (values_of slot) given)))

-- delete: each of the values is there, and none is given twice
abbrev pub slot_without : Mod → Option Stored → KeyedValues → Result (Option Stored) ResultCode
slot_without m slot given =
    unless (not (are_distinct given && has_all (values_of slot) given)) NoSuchAttribute
    (Ok (slot_of (spelling_or m.description.spelling slot) (values_without (values_of slot) given)))

-- replace: no value is given twice
abbrev pub slot_of_given : Mod → KeyedValues → Result (Option Stored) ResultCode
slot_of_given m given =
    unless (not (are_distinct given)) AttributeOrValueExists
    (Ok (slot_of m.description.spelling (values_with fin.empty given)))

-- delete without values: the attribute is there
abbrev pub no_slot : Option Stored → Result (Option Stored) ResultCode
no_slot None = Err NoSuchAttribute
no_slot (Some a) = Ok None

-- whether the values of a type are integers
abbrev pub has_integers : Rule → Bool
has_integers Integer = true
has_integers other = false

-- increment: the attribute is there; the amount, each value and each sum is a number of 128 bits. The attribute keeps its spelling
abbrev pub slot_with_sums : List ℕ → Option Stored → Result (Option Stored) ResultCode
slot_with_sums amount None = Err NoSuchAttribute
slot_with_sums amount (Some a) =
    and_then (ok_or (number_within amount) ConstraintViolation)
    (λ number. and_then (ok_or (sums number a.values) ConstraintViolation) (λ texts. Ok (slot_of a.spelling (values_with fin.empty (map keyed_integer texts)))))

-- increment (RFC 4525, section 2): one value is given, of a type whose values are integers
abbrev pub slot_incremented : List TypeRow → Attr → List (List ℕ) → Option Stored → Result (Option Stored) ResultCode
slot_incremented rows k [] slot = Err ProtocolError
slot_incremented rows k (amount ∷ []) slot =
    unless (not (has_integers (rule_of rows k) && is_some (keyed_value rows k amount))) InvalidAttributeSyntax
    (slot_with_sums amount slot)
slot_incremented rows k (amount ∷ another ∷ values) slot = Err ProtocolError

-- what the operation does with the values that it is given, of which there may be none
abbrev pub slot_after_op : List TypeRow → Mod → ModOp → List (List ℕ) → Option Stored → Result (Option Stored) ResultCode
slot_after_op rows m op.Add [] slot = Err ProtocolError
slot_after_op rows m op.Add (value ∷ values) slot = if_keyed rows m (slot_with m slot)
slot_after_op rows m op.Delete [] slot = no_slot slot
slot_after_op rows m op.Delete (value ∷ values) slot = if_keyed rows m (slot_without m slot)
slot_after_op rows m op.Replace [] slot = Ok None
slot_after_op rows m op.Replace (value ∷ values) slot = if_keyed rows m (slot_of_given m)
slot_after_op rows m op.Increment values slot = slot_incremented rows m.description.key values slot

abbrev pub slot_after : List TypeRow → Mod → Option Stored → Result (Option Stored) ResultCode
slot_after rows m slot = slot_after_op rows m m.op m.values slot

-- ---- all modifications, in order: the first refusal refuses the modify

abbrev pub attributes_after_one : List TypeRow → StoredAttributes → Mod → Result StoredAttributes ResultCode
attributes_after_one rows xs m = and_then (slot_after rows m (fin.get xs m.description.key)) (λ slot. Ok (with_slot xs m.description.key slot))

abbrev pub attributes_after : List TypeRow → StoredAttributes → List Mod → Result StoredAttributes ResultCode
attributes_after rows xs [] = Ok xs
attributes_after rows xs (m ∷ ms) = and_then (attributes_after_one rows xs m) (λ ys. attributes_after rows ys ms)

-- the entry with these attributes
abbrev pub with_attributes : Content → StoredAttributes → Content
with_attributes e xs = record { own = e.own; key = e.key; attributes = xs }

-- the entry after all modifications, if it still has each value of its own RDN, and no attribute of a single type has more than one value
abbrev pub entry_after : List TypeRow → Content → List Mod → Result Content ResultCode
entry_after rows e mods = and_then (attributes_after rows e.attributes mods) (λ xs. entry_or_code (changed_entry rows (with_attributes e xs)))
