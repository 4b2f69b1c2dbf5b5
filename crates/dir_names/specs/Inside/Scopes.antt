-- Under which tables holds what was found under one of them.
use Rattle.std.specs.Prelude.{◌≡◌, ℕ, Bool, true, List, is_some}
use Rattle.std.specs.List.{list_all}
use Rattle.dir_names.specs.declared.schema.scope.Scope.{Scope}
use Rattle.dir_names.specs.declared.schema.scope.Scope.TheVariants.{ThisSchema, EachSchema}
use Rattle.dir_names.specs.declared.schema.TypeRow.{TypeRow}
use Rattle.dir_names.specs.NameKeys.{name_value_key}
use Rattle.dir_names.specs.Names.{SpelledName}
use Rattle.dir_names.specs.Table.{row_named}
use Rattle.dir_names.specs.Table.Builtin.{builtin_rows}
use Rattle.dir_names.specs.Types.Adding.{KeepsTypes}

-- the table that was asked, or each one that keeps the built-in types
abbrev pub IsWithin : Scope → List TypeRow → List TypeRow → Type 0
IsWithin ThisSchema asked rows = rows ≡ asked
IsWithin EachSchema asked rows = KeepsTypes builtin_rows rows

abbrev pub HoldsWithin : Scope → List TypeRow → (List TypeRow → Type 0) → Type 0
HoldsWithin scope asked P = (rows : List TypeRow) → IsWithin scope asked rows → P rows

-- the narrower of two
abbrev pub both : Scope → Scope → Scope
both EachSchema other = other
both ThisSchema other = ThisSchema

-- a text names a built-in type
abbrev pub names_builtin : List ℕ → Bool
names_builtin t = is_some (row_named builtin_rows t)

-- each type of a name is built in
abbrev pub has_builtin_types : SpelledName → Bool
has_builtin_types name = list_all (λ rdn. list_all (λ p. names_builtin p.0) rdn) name

-- what is known of a type, and of the types of a name: they are built in, where the scope is each schema
abbrev pub IsScopeOf : Scope → List ℕ → Type 0
IsScopeOf scope t = scope ≡ EachSchema → names_builtin t ≡ true

abbrev pub IsScopeOfName : Scope → SpelledName → Type 0
IsScopeOfName scope name = scope ≡ EachSchema → has_builtin_types name ≡ true

-- the name that a value spells has the same key under each of the tables
abbrev pub IsScopeOfValue : Scope → List TypeRow → List ℕ → Type 0
IsScopeOfValue scope asked value = HoldsWithin scope asked (λ rows. name_value_key rows value ≡ name_value_key asked value)
