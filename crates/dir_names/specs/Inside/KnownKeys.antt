-- The keys that are remembered: those that are the same under each table that keeps the built-in types.
use Rattle.std.specs.Prelude.{◌≡◌, ℕ, [], ◌∷◌, List, Some}
use Rattle.dir_names.specs.declared.schema.TypeRow.{TypeRow}
use Rattle.dir_names.specs.Keys.{DnKeys}
use Rattle.dir_names.specs.NameKeys.{name_key, name_value_key}
use Rattle.dir_names.specs.Names.{SpelledName}
use Rattle.dir_names.specs.Table.Builtin.{builtin_rows}
use Rattle.dir_names.specs.Types.Adding.{KeepsTypes}

-- the key of a name
abbrev pub IsKeyOf : SpelledName → DnKeys → Type 0
IsKeyOf name key = (rows : List TypeRow) → KeepsTypes builtin_rows rows → name_key rows name ≡ Some key

-- the key of the parent: that of the RDNs after the leaf. A name without RDNs has none
abbrev pub IsKeyAbove : SpelledName → DnKeys → Type 0
IsKeyAbove [] key = ⊥
IsKeyAbove (leaf ∷ rest) key = IsKeyOf rest key

-- the key of the name that a value spells
abbrev pub IsKeyOfValue : List ℕ → DnKeys → Type 0
IsKeyOfValue value key = (rows : List TypeRow) → KeepsTypes builtin_rows rows → name_value_key rows value ≡ Some key
