-- A directory in good order (RFC 4512, sections 2.2 to 2.4).
use Rattle.std.specs.Prelude.{◌≡◌, ℕ, ◌≤◌, Bool, true, false, cond, List, [], ◌∷◌, map, take, reverse, length, Option, Some, None, Ok, ⊤, nat_lt}
use Rattle.std.specs.List.{flat_map, list_all}
use Rattle.std.specs.FinMap as fin
use Rattle.dir_names.specs.declared.schema.TypeRow.{TypeRow}
use Rattle.dir_names.specs.declared.value.ValueKey.{ValueKey}
use Rattle.dir_names.specs.Attr.{Attr}
use Rattle.dir_names.specs.Described.{Described}
use Rattle.dir_names.specs.Descriptions.{description_of}
use Rattle.dir_names.specs.Keys.{DnKeys}
use Rattle.dir_names.specs.NameKeys.{name_key, value_key_of}
use Rattle.dir_names.specs.Names.{SpelledPair}
use Rattle.dir_names.specs.Orders.{dn_key_eq}
use Rattle.dir_names.specs.Names.Limits.{is_rdn_within_limit}
use Rattle.dir_names.specs.Names.Sound.{is_sound_name, is_sound_pair}
use Rattle.dir_tree.specs.declared.lines.KeyedLine.{KeyedLine}
use Rattle.dir_tree.specs.Content.{Content, Stored, StoredAttributes, has_value}
use Rattle.dir_tree.specs.Dir.{Dir, IsClosed, entry_at}
use Rattle.dir_tree.specs.NewEntry.{exceeds_single_value, leaf_key, leaf_lines}

abbrev pub Each : {A : Type 0} → (A → Type 0) → List A → Type 0
Each P [] = ⊤
Each P (x ∷ xs) = P x × Each P xs

-- ---- the values of an entry, as lines

abbrev pub attribute_lines : Attr × Stored → List (Described × List ℕ)
attribute_lines a = map (λ v. (record { spelling = a.1.spelling; key = a.0 }, v.1)) (fin.entries a.1.values)

-- all values, in order of their attributes' keys and then of their own
abbrev pub all_lines : StoredAttributes → List (Described × List ℕ)
all_lines xs = flat_map attribute_lines (fin.entries xs)

-- ---- entries

abbrev pub are_bytes : List ℕ → Bool
are_bytes value = list_all (λ b. nat_lt b 256) value

-- a value is under its key, and consists of at most 1,048,576 bytes
abbrev pub IsSoundValue : List TypeRow → Attr → ValueKey × List ℕ → Type 0
IsSoundValue rows a v = (value_key_of rows a v.1 ≡ Ok v.0) × (length v.1 ≤ 1048576) × (are_bytes v.1 ≡ true)

-- an attribute is under the key of its description, and has a value; each of its values is sound
abbrev pub IsSoundAttribute : List TypeRow → Attr × Stored → Type 0
IsSoundAttribute rows a =
    (description_of rows a.1.spelling ≡ Ok (record { spelling = a.1.spelling; key = a.0 }))
    × (fin.entries a.1.values ≡ [] → ⊥)
    × Each (IsSoundValue rows a.0) (fin.entries a.1.values)

abbrev pub has_each : StoredAttributes → Option (List KeyedLine) → Bool
has_each xs None = false
has_each xs (Some ls) = list_all (λ l. has_value xs l.description.key l.key) ls

-- the key is that of the leaf of the own name, each attribute is sound, the values of the own RDN are there, and no attribute of a single type has more than one value
abbrev pub IsSoundEntry : List TypeRow → Content → Type 0
IsSoundEntry rows e =
    (leaf_key rows e.own ≡ Some e.key)
    × Each (IsSoundAttribute rows) (fin.entries e.attributes)
    × (has_each e.attributes (leaf_lines rows e.own) ≡ true)
    × (exceeds_single_value rows e.attributes ≡ false)

-- ---- the lines and pairs of which an add makes a sound entry

-- a line with a description that was read under the schema, and a value within the limit
abbrev pub IsLegalLine : List TypeRow → Described × List ℕ → Type 0
IsLegalLine rows line = (description_of rows line.0.spelling ≡ Ok line.0) × (length line.1 ≤ 1048576) × (are_bytes line.1 ≡ true)

-- a pair that a name may have, with a value within the limit
abbrev pub IsLegalPair : SpelledPair → Type 0
IsLegalPair p = (is_sound_pair p ≡ true) × (length p.1 ≤ 1048576)

-- ---- directories

-- the part of its key that the own name of an entry stands for: for the suffix's entry the whole key, else the last part
abbrev pub own_part : DnKeys → DnKeys → DnKeys
own_part suffix k = cond (dn_key_eq k suffix) k (take 1 (reverse k))

-- the suffix is not empty, each entry but the suffix's has its parent, and each entry is sound and has the own name that its key asks for
abbrev pub IsWellFormed : List TypeRow → Dir → Type 0
IsWellFormed rows d =
    (d.suffix ≡ [] → ⊥)
    × IsClosed d
    × ((k : DnKeys) (e : Content) → entry_at d k ≡ Some e → IsSoundEntry rows e × (name_key rows e.own ≡ Some (own_part d.suffix k)))

-- each key has at most 64 parts, and each own name is sound, its RDNs within the limit
abbrev pub IsWithinLimits : Dir → Type 0
IsWithinLimits d = (k : DnKeys) (e : Content) → entry_at d k ≡ Some e → (length k ≤ 64) × (is_sound_name e.own ≡ true) × (list_all is_rdn_within_limit e.own ≡ true)
