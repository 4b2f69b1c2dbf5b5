-- What modifications look at of what is under a key: all of it, or a part of an attribute, which has the values that they name and one more.
use Rattle.std.specs.Prelude.{◌≡◌, ℕ, Bool, true, false, cond, not, ◌&&◌, ◌||◌, ◌==◌, List, [], ◌∷◌, length, Option, Some, None, is_some, option_map, Result, Ok, Err, ⊤}
use Rattle.std.specs.List.{list_all, list_any}
use Rattle.std.specs.FinMap as fin
use Rattle.std.specs.Ordering.{eq_by_cmp}
use Rattle.dir_names.specs.declared.schema.TypeRow.{TypeRow}
use Rattle.dir_names.specs.declared.value.ValueKey.{ValueKey}
use Rattle.dir_names.specs.declared.value.ValueKey.TheVariants.{Text}
use Rattle.dir_names.specs.Attr.{Attr}
use Rattle.dir_names.specs.Keys.{RdnKeys}
use Rattle.dir_names.specs.Orders.{attr_cmp, attr_eq}
use Rattle.dir_names.specs.Values.{value_key_cmp}
use Rattle.dir_names.specs.Table.{single_of}
use Rattle.dir_ldif.specs.declared.records.Mod.{Mod}
use Rattle.dir_ldif.specs.declared.records.ModOp.{ModOp}
use Rattle.dir_ldif.specs.declared.records.ModOp.TheVariants as op
use Rattle.dir_tree.specs.Content.{Content, Stored, StoredAttributes, StoredValues}
use Rattle.dir_tree.specs.WellFormed.{Each}
use Rattle.dir_change.specs.Modify.{KeyedValues, keyed_value, keyed_values}
use Rattle.dir_change.specs.declared.result_code.ResultCode.{ResultCode}

-- ---- a part of an attribute

-- a part of an attribute: its values that pass the test, among them this one; all others are those of the attribute at first
pub record IsPartOf (test : ValueKey → Bool) (first : Stored) (one : ValueKey) (whole part : Stored) : Type 0 where
  pub spelled : part.spelling ≡ whole.spelling
  pub spelled_first : whole.spelling ≡ first.spelling
  pub inside : (v : ValueKey) → test v ≡ true → fin.get part.values v ≡ fin.get whole.values v
  pub nothing_else : (v : ValueKey) → test v ≡ false → fin.get part.values v ≡ None
  pub outside : (v : ValueKey) → test v ≡ false → fin.get whole.values v ≡ fin.get first.values v
  pub passes : test one ≡ true
  pub has_one : is_some (fin.get part.values one) ≡ true

-- the same refusal, or a part again
abbrev pub AreAlike : (ValueKey → Bool) → Stored → ValueKey → Result (Option Stored) ResultCode → Result (Option Stored) ResultCode → Type 0
AreAlike test first one (Err c) (Err d) = c ≡ d
AreAlike test first one (Ok (Some whole)) (Ok (Some part)) = IsPartOf test first one whole part
AreAlike test first one r s = ⊥

-- which part of an attribute is looked at
pub record Looked : Type 0 where
  pub test : ValueKey → Bool
  pub first : Stored
  pub one : ValueKey

-- the whole of what is under a key, or a part of it
abbrev pub AreSlotsAlike : Option Looked → Option Stored → Option Stored → Type 0
AreSlotsAlike None s f = s ≡ f
AreSlotsAlike (Some p) s f = AreAlike p.test p.first p.one (Ok s) (Ok f)

-- ---- what modifications name

abbrev pub adds_or_deletes : ModOp → Bool
adds_or_deletes op.Add = true
adds_or_deletes op.Delete = true
adds_or_deletes other = false

-- a modification that adds or deletes values that it names
abbrev pub names_values : Mod → Bool
names_values m = adds_or_deletes m.op && not (length m.values == 0)

abbrev pub all_name_values : Attr → List Mod → Bool
all_name_values k mods = list_all (λ m. not (attr_eq m.description.key k) || names_values m) mods

-- each value that a modification names passes, if they have keys, and is not the one
abbrev pub NamesInside : (ValueKey → Bool) → Stored → ValueKey → List TypeRow → Mod → Type 0
NamesInside test first one rows m = (given : KeyedValues) → keyed_values rows m.description.key m.values ≡ Some given → Each (λ p. (test p.0 ≡ true)) given × (fin.find value_key_cmp one given ≡ None)

abbrev pub NamesLooked : List TypeRow → Mod → Option Looked → Type 0
NamesLooked rows m None = ⊤
NamesLooked rows m (Some p) = (names_values m ≡ true) × NamesInside p.test p.first p.one rows m

-- a value that is looked at, where an attribute is looked at in part
abbrev pub IsSeen : Option Looked → ValueKey → Type 0
IsSeen None v = ⊤
IsSeen (Some p) v = p.test v ≡ true

-- a type that may have more than one value, where an attribute is looked at in part
abbrev pub IsFree : List TypeRow → Attr → Option Looked → Type 0
IsFree rows q None = ⊤
IsFree rows q (Some p) = single_of rows q ≡ false

-- ---- what is looked at of an entry

-- all that modifications of this key do and all that is judged after them is seen in what is looked at
pub record LooksAt (rows : List TypeRow) (own : RdnKeys) (mods : List Mod) (q : Attr) (slot part : Option Stored) : Type 0 where
  pub looked : Option Looked
  pub alike : AreSlotsAlike looked slot part
  pub free : IsFree rows q looked
  pub named : Each (λ m. (m.description.key ≡ q → NamesLooked rows m looked)) mods
  pub seen : Each (λ p. (p.0 ≡ q → IsSeen looked (Text p.1))) own

abbrev pub is_one_of : Attr → List Attr → Bool
is_one_of q ks = list_any (eq_by_cmp attr_cmp q) ks

-- so it is under each of these keys; nothing is looked at under any other
abbrev pub AreLooks : List TypeRow → Content → List Mod → List Attr → StoredAttributes → Type 0
AreLooks rows e mods keys before =
    ((q : Attr) → is_one_of q keys ≡ true → LooksAt rows e.key mods q (fin.get e.attributes q) (fin.get before q))
    × ((q : Attr) → is_one_of q keys ≡ false → fin.get before q ≡ None)

-- ---- in turn

-- the values and this one, if it has a key that is not there yet
abbrev pub with_name : StoredValues → Option (ValueKey × List ℕ) → StoredValues
with_name values None = values
with_name values (Some p) = cond (fin.contains_key values p.0) values (fin.insert values p.0 p.1)

-- the values that have keys
abbrev pub with_names : List TypeRow → Attr → StoredValues → List (List ℕ) → StoredValues
with_names rows k named [] = named
with_names rows k named (value ∷ values) = with_names rows k (with_name named (keyed_value rows k value)) values

-- those of all modifications of the key
abbrev pub all_named : List TypeRow → Attr → StoredValues → List Mod → StoredValues
all_named rows k named [] = named
all_named rows k named (m ∷ ms) = all_named rows k (cond (attr_eq m.description.key k) (with_names rows m.description.key named m.values) named) ms

-- the part and the values that have these keys
abbrev pub with_each : StoredValues → StoredValues → KeyedValues → StoredValues
with_each values part [] = part
with_each values part (p ∷ ps) = with_each values (with_name part (option_map (λ bytes. (p.0, bytes)) (fin.get values p.0))) ps

-- whether a type may have more than one value, and the own RDN has none of it
abbrev pub is_free : List TypeRow → RdnKeys → Attr → Bool
is_free rows own k = not (single_of rows k) && list_all (λ p. not (attr_eq p.0 k)) own
