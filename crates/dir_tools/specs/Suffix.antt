-- The suffix of a run: a name of at least one RDN.
use Rattle.std.specs.Prelude.{◌≡◌, ⊤, ℕ, List, [], ◌∷◌, Option, Some, None, Result, Ok, Err}
use Rattle.dir_names.specs.declared.schema.TypeRow.{TypeRow}
use Rattle.dir_names.specs.declared.fault.NameFault.{NameFault}
use Rattle.dir_names.specs.Keys.{DnKeys}
use Rattle.dir_names.specs.Names.{SpelledName}
use Rattle.dir_names.specs.NameKeys.{name_key}
use Rattle.dir_names.specs.Names.Reading.{name_within_limits}
use Rattle.dir_tools.specs.declared.fault.Item.TheVariants as item
use Rattle.dir_tools.specs.declared.fault.ToolFault.{ToolFault}
use Rattle.dir_tools.specs.declared.fault.ToolFault.TheVariants as tool

-- the key of a suffix of at least one RDN
abbrev pub nonempty_key : Option DnKeys → Option DnKeys
nonempty_key None = None
nonempty_key (Some []) = None
nonempty_key (Some (part ∷ parts)) = Some (part ∷ parts)

abbrev pub suffix_key : List TypeRow → Result SpelledName NameFault → Option DnKeys
suffix_key rows (Ok name) = nonempty_key (name_key rows name)
suffix_key rows (Err fault) = None

-- the key of the suffix that a text names
abbrev pub suffix_of : List TypeRow → List ℕ → Option DnKeys
suffix_of rows text = suffix_key rows (name_within_limits text)

-- the suffix is not a name of at least one RDN, or memory ran out
abbrev pub IsNoSuffix : Option DnKeys → ToolFault → Type 0
IsNoSuffix key (tool.BadQuestion item.Suffix) = key ≡ None
IsNoSuffix key tool.Memory = ⊤
IsNoSuffix key fault = ⊥
