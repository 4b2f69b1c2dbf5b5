-- A row of the code's table, as a type of the schema.
use Rattle.std.specs.Prelude.{ℕ, Bool, ◌||◌, List, ◌∷◌, map}
use Rattle.std.specs.List.{list_any}
use Rattle.std.specs.Str.{str_eq_ignore_ascii_case, str_to_ascii_lowercase}
use Rattle.dir_names.specs.declared.schema.TypeRow.{TypeRow}
use Rattle.dir_names.specs.declared.schema.Rule.{Rule}
use Rattle.dir_names.specs.declared.schema.rules.NamedRule.{NamedRule}
use Rattle.dir_names.specs.declared.schema.table.Row.{Row}

abbrev pub type_row : Row → TypeRow
type_row row = record { key = str_to_ascii_lowercase row.name.now; names = row.name.now ∷ map (λ other. other.now) row.others.now; rule = row.rule; single = row.single }

-- a text is one of the names of the row, in any ASCII case
abbrev pub is_row_of : List ℕ → Row → Bool
is_row_of text row = str_eq_ignore_ascii_case row.name.now text || list_any (λ other. str_eq_ignore_ascii_case other.now text) row.others.now

abbrev pub named_rule : NamedRule → List ℕ × Rule
named_rule listed = (listed.name.now, listed.rule)
