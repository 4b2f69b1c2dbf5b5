-- What the definition of an attribute type adds to a table (RFC 4512, sections 2.5.1 and 4.1.2). `table_with` is the whole; `IsAddition` says what it means.
use Rattle.std.specs.Prelude.{◌≡◌, ℕ, Bool, true, false, cond, not, ◌&&◌, nat_le, List, [], ◌∷◌, ◌++◌, map, length, codes, filter, find, Option, Some, None, is_some, option_map, option_and_then}
use Rattle.std.specs.List.{list_all, list_any}
use Rattle.std.specs.Str.{str_eq_ignore_ascii_case, str_to_ascii_lowercase}
use Rattle.dir_names.specs.declared.schema.definition.TypeDefinition.{TypeDefinition}
use Rattle.dir_names.specs.declared.schema.Rule.{Rule}
use Rattle.dir_names.specs.declared.schema.Rule.TheVariants as rule
use Rattle.dir_names.specs.declared.schema.TypeRow.{TypeRow}
use Rattle.dir_names.specs.Definitions.{definition_of}
use Rattle.dir_names.specs.Descriptions.{is_descr, is_reserved}
use Rattle.dir_names.specs.NameKeys.{attr_of}
use Rattle.dir_names.specs.Orders.{bytes_eq}
use Rattle.dir_names.specs.Table.{row_named, rule_of, single_of, type_key_of}

-- no text names two types, and a type's key is one of its names
abbrev pub is_table : List TypeRow → Bool
is_table [] = true
is_table (row ∷ rows) = (list_any (λ name. str_eq_ignore_ascii_case name row.key) row.names && list_all (λ name. not (is_some (row_named rows name))) row.names) && is_table rows

-- ---- names

-- what the definition calls the type: its names, and its number
abbrev pub names_given : TypeDefinition → List (List ℕ)
names_given d = d.names ++ d.number ∷ []

-- a text is one of these names, in any ASCII case
abbrev pub names_it : TypeDefinition → List ℕ → Bool
names_it d t = list_any (λ name. str_eq_ignore_ascii_case name t) (names_given d)

-- the primary name: the first one, or the number where there is none
abbrev pub primary_name : TypeDefinition → List (List ℕ) → List ℕ
primary_name d [] = d.number
primary_name d (name ∷ names) = name

-- a name that names nothing yet, or the type that the number names
abbrev pub is_free : Option TypeRow → Option TypeRow → Bool
is_free numbered None = true
is_free None (Some named) = false
is_free (Some numbered) (Some named) = bytes_eq numbered.key named.key

abbrev pub may_be_given : List TypeRow → TypeDefinition → List ℕ → Bool
may_be_given rows d name = (is_descr name && nat_le (length name) 512) && (not (is_reserved name) && is_free (row_named rows d.number) (row_named rows name))

-- ---- the rule

-- the rules that are told apart (RFC 4517, section 4.2), by their names
unfoldable pub equality_rules : List (List ℕ × Rule)
equality_rules =
    (codes "caseIgnoreMatch", rule.CaseIgnore) ∷
    (codes "caseIgnoreIA5Match", rule.Ia5CaseIgnore) ∷
    (codes "caseExactIA5Match", rule.Ia5CaseExact) ∷
    (codes "telephoneNumberMatch", rule.Telephone) ∷
    (codes "integerMatch", rule.Integer) ∷
    (codes "distinguishedNameMatch", rule.Name) ∷
    (codes "octetStringMatch", rule.Octet) ∷
    (codes "objectIdentifierMatch", rule.ObjectId) ∷
    []

-- the types that others are derived from (RFC 4519, sections 2.7 and 2.18), where the table doesn't have them
unfoldable pub base_rules : List (List ℕ × Rule)
base_rules = (codes "name", rule.CaseIgnore) ∷ (codes "distinguishedName", rule.Name) ∷ []

abbrev pub rule_listed : List (List ℕ × Rule) → List ℕ → Option Rule
rule_listed rules word = option_map (λ p. p.1) (find (λ p. str_eq_ignore_ascii_case p.0 word) rules)

-- values are compared byte by byte by any other rule
abbrev pub or_octet : Option Rule → Rule
or_octet (Some known) = known
or_octet None = rule.Octet

abbrev pub rule_of_row : Option TypeRow → Option Rule → Option Rule
rule_of_row (Some row) base = Some row.rule
rule_of_row None base = base

-- that of EQUALITY; else that of the type that SUP names, which must be known
abbrev pub rule_by : List TypeRow → Option (List ℕ) → Option (List ℕ) → Option Rule
rule_by rows (Some equality) sup = Some (or_octet (rule_listed equality_rules equality))
rule_by rows None (Some sup) = rule_of_row (row_named rows sup) (rule_listed base_rules sup)
rule_by rows None None = Some rule.Octet

-- ---- the table

abbrev pub new_row : TypeDefinition → Rule → TypeRow
new_row d of_values = record { key = str_to_ascii_lowercase (primary_name d d.names); names = names_given d; rule = of_values; single = d.single }

-- the names that name nothing yet
abbrev pub new_names : List TypeRow → TypeDefinition → List (List ℕ)
new_names rows d = filter (λ name. not (is_some (row_named rows name))) d.names

-- a type of this number gains them; its key, its rule and whether it is single stay
abbrev pub gaining : TypeDefinition → List (List ℕ) → TypeRow → TypeRow
gaining d gained row = cond (list_any (λ name. str_eq_ignore_ascii_case name d.number) row.names) (record { key = row.key; names = row.names ++ gained; rule = row.rule; single = row.single }) row

abbrev pub with_names : List TypeRow → TypeDefinition → Option TypeRow → Option (List TypeRow)
with_names rows d (Some numbered) = Some (map (gaining d (new_names rows d)) rows)
with_names rows d None = option_map (λ of_values. rows ++ new_row d of_values ∷ []) (rule_by rows d.equality d.sup)

abbrev pub may_be_added : List TypeRow → TypeDefinition → Bool
may_be_added rows d = nat_le (length d.number) 512 && list_all (may_be_given rows d) d.names

-- the table with what a definition says, if its number is not too long, each of its names may be given, and a new type has a rule
abbrev pub table_with : List TypeRow → TypeDefinition → Option (List TypeRow)
table_with rows d = cond (may_be_added rows d) (with_names rows d (row_named rows d.number)) None

abbrev pub table_with_text : List TypeRow → List ℕ → Option (List TypeRow)
table_with_text rows text = option_and_then (table_with rows) (definition_of text)

-- ---- what it means

-- a table of attribute types beside one that has more: what the first says of a text that names one of its types, the second says too
pub record KeepsTypes (old new : List TypeRow) : Type 0 where
  pub known : (t : List ℕ) → is_some (row_named old t) ≡ true → is_some (row_named new t) ≡ true
  pub key : (t : List ℕ) → is_some (row_named old t) ≡ true → type_key_of new t ≡ type_key_of old t
  pub rule : (t : List ℕ) → is_some (row_named old t) ≡ true → rule_of new (attr_of new t) ≡ rule_of old (attr_of old t)
  pub single : (t : List ℕ) → is_some (row_named old t) ≡ true → single_of new (attr_of new t) ≡ single_of old (attr_of old t)

-- the type's key: that of the known type of this number, or the primary name in lower case
abbrev pub key_given : Option TypeRow → TypeDefinition → List ℕ
key_given (Some numbered) d = numbered.key
key_given None d = str_to_ascii_lowercase (primary_name d d.names)

-- no known type changes its meaning; the number and the names name one type; no other text names a type that it did not name before; and a new type has the rule
-- and the limit of the definition
pub record IsAddition (rows : List TypeRow) (d : TypeDefinition) (now : List TypeRow) : Type 0 where
  pub keeps : KeepsTypes rows now
  pub named : (t : List ℕ) → names_it d t ≡ true → type_key_of now t ≡ key_given (row_named rows d.number) d
  pub others : (t : List ℕ) → names_it d t ≡ false → row_named rows t ≡ None → row_named now t ≡ None
  pub rule : row_named rows d.number ≡ None → rule_by rows d.equality d.sup ≡ Some (rule_of now (attr_of now d.number))
  pub single : row_named rows d.number ≡ None → single_of now (attr_of now d.number) ≡ d.single
