-- What a table of attribute types says of a type. `Builtin` has the table itself.
pub mod Builtin
use Rattle.std.specs.Prelude.{ℕ, Bool, false, List, Option, Some, None, find, is_some}
use Rattle.std.specs.List.{list_any}
use Rattle.std.specs.Str.{str_to_ascii_lowercase, str_eq_ignore_ascii_case}
use Rattle.dir_names.specs.declared.schema.Rule.{Rule}
use Rattle.dir_names.specs.declared.schema.Rule.TheVariants.{Octet}
use Rattle.dir_names.specs.declared.schema.TypeRow.{TypeRow}
use Rattle.dir_names.specs.Attr.{Attr}
use Rattle.dir_names.specs.Orders.{bytes_eq}

-- the row that a name or a number names, in any ASCII case (RFC 4512, section 2.5)
abbrev pub row_named : List TypeRow → List ℕ → Option TypeRow
row_named rows attr_type = find (λ row. list_any (λ name. str_eq_ignore_ascii_case name attr_type) row.names) rows

-- the key of a type: the primary name of its row in lower case, or, for a type without a row, the text itself in lower case
abbrev pub key_in : Option TypeRow → List ℕ → List ℕ
key_in (Some row) attr_type = row.key
key_in None attr_type = str_to_ascii_lowercase attr_type

abbrev pub type_key_of : List TypeRow → List ℕ → List ℕ
type_key_of rows attr_type = key_in (row_named rows attr_type) attr_type

-- the row of an attribute's type
abbrev pub row_of : List TypeRow → Attr → Option TypeRow
row_of rows attr = find (λ row. bytes_eq row.key attr.attr_type) rows

-- a type is known if it has a row
abbrev pub is_known : List TypeRow → Attr → Bool
is_known rows attr = is_some (row_of rows attr)

-- values of a type without a row are compared byte by byte, and an attribute of it takes any number of them
abbrev pub rule_in : Option TypeRow → Rule
rule_in (Some row) = row.rule
rule_in None = Octet

abbrev pub single_in : Option TypeRow → Bool
single_in (Some row) = row.single
single_in None = false

abbrev pub rule_of : List TypeRow → Attr → Rule
rule_of rows attr = rule_in (row_of rows attr)

abbrev pub single_of : List TypeRow → Attr → Bool
single_of rows attr = single_in (row_of rows attr)
