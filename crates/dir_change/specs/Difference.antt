-- The modifications that lead from one entry's attributes to another's.
use Rattle.std.specs.Prelude.{ℕ, Bool, cond, not, List, [], ◌∷◌, ◌++◌, map, Option, Some, None, false}
use Rattle.std.specs.List.{filter, flat_map}
use Rattle.std.specs.FinMap as fin
use Rattle.dir_names.specs.declared.value.ValueKey.{ValueKey}
use Rattle.dir_names.specs.Attr.{Attr}
use Rattle.dir_names.specs.Orders.{attr_cmp, bytes_eq}
use Rattle.dir_names.specs.Sorted.{set_of}
use Rattle.dir_ldif.specs.declared.records.Mod.{Mod}
use Rattle.dir_ldif.specs.declared.records.ModOp.{ModOp}
use Rattle.dir_ldif.specs.declared.records.ModOp.TheVariants as op
use Rattle.dir_tree.specs.Content.{Stored, StoredValues, StoredAttributes}
use Rattle.dir_change.specs.Modify.{KeyedValues}

abbrev pub are_bytes_of : List ℕ → Option (List ℕ) → Bool
are_bytes_of bytes None = false
are_bytes_of bytes (Some other) = bytes_eq bytes other

-- whether the values have this one, with the same key and the same bytes
abbrev pub has_exactly : StoredValues → ValueKey × List ℕ → Bool
has_exactly values p = are_bytes_of p.1 (fin.get values p.0)

-- the first values without those that are exactly so among the second, in order of their keys
abbrev pub values_missing_in : StoredValues → StoredValues → KeyedValues
values_missing_in values others = filter (λ p. not (has_exactly others p)) (fin.entries values)

abbrev pub bytes_of : KeyedValues → List (List ℕ)
bytes_of values = map (λ p. p.1) values

abbrev pub modification : Attr → List ℕ → ModOp → List (List ℕ) → Mod
modification k spelling what values = record { op = what; description = record { spelling = spelling; key = k }; values = values }

-- a modification, if there is a value
abbrev pub modification_if_any : Attr → List ℕ → ModOp → List (List ℕ) → List Mod
modification_if_any k spelling what [] = []
modification_if_any k spelling what (value ∷ values) = modification k spelling what (value ∷ values) ∷ []

-- from what is under one key to what is to be there: nothing where they are equal
abbrev pub slot_difference : Attr → Option Stored → Option Stored → List Mod
slot_difference k None None = []
slot_difference k (Some a) None = modification k a.spelling op.Delete [] ∷ []
slot_difference k None (Some b) = modification k b.spelling op.Add (bytes_of (fin.entries b.values)) ∷ []
slot_difference k (Some a) (Some b) =
    cond (bytes_eq a.spelling b.spelling)
    (modification_if_any k b.spelling op.Delete (bytes_of (values_missing_in a.values b.values)) ++ modification_if_any k b.spelling op.Add (bytes_of (values_missing_in b.values a.values)))
    (modification k b.spelling op.Replace (bytes_of (fin.entries b.values)) ∷ [])

-- the same for each of these keys, in their order
abbrev pub difference_at : List Attr → StoredAttributes → StoredAttributes → List Mod
difference_at keys xs ys = flat_map (λ k. slot_difference k (fin.get xs k) (fin.get ys k)) keys

-- the same for each key of either, in order: all modifications that lead from one entry's attributes to the other's
abbrev pub difference : StoredAttributes → StoredAttributes → List Mod
difference xs ys = difference_at (set_of attr_cmp (fin.keys xs ++ fin.keys ys)) xs ys
