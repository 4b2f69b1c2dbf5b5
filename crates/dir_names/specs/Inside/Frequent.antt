-- The attribute types for which a schema keeps what it would look up.
use Rattle.std.specs.Prelude.{◌≡◌, ℕ, List, Option, IfSome, Ok}
use Rattle.dir_names.specs.declared.schema.FrequentType.{FrequentType}
use Rattle.dir_names.specs.declared.schema.RankedType.{RankedType}
use Rattle.dir_names.specs.declared.schema.TypeRow.{TypeRow}
use Rattle.dir_names.specs.Described.{Described}
use Rattle.dir_names.specs.Descriptions.{description_of}
use Rattle.dir_names.specs.Inside.Ranks.{ranked_attr}
use Rattle.dir_names.specs.Inside.Scopes.{IsScopeOf}
use Rattle.dir_names.specs.NameKeys.{attr_of}
use Rattle.dir_names.specs.Table.{rule_of, single_of}

-- a text that is a type without options, and its description
abbrev pub IsFrequentDescription : List TypeRow → List ℕ × Described → Type 0
IsFrequentDescription rows p = (description_of rows p.0 ≡ Ok p.1) × (attr_of rows p.0 ≡ p.1.key)

-- the rule of its values, and whether it is built in
abbrev pub IsFrequentType : List TypeRow → FrequentType → Type 0
IsFrequentType rows frequent = IsFrequentDescription rows (frequent.text, frequent.description) × (rule_of rows frequent.description.key ≡ frequent.rule) × IsScopeOf frequent.scope frequent.text

abbrev pub IsFrequentSlot : List TypeRow → Option FrequentType → Type 0
IsFrequentSlot rows slot = IfSome slot (IsFrequentType rows)

-- what is known of the type that has this rank
abbrev pub IsRankedType : List TypeRow → RankedType → Type 0
IsRankedType rows ranked = (rule_of rows (ranked_attr ranked.rank) ≡ ranked.rule) × (single_of rows (ranked_attr ranked.rank) ≡ ranked.single)
