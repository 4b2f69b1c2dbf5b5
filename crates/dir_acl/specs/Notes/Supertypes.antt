-- The types from which others are derived (RFC 4512, section 2.5.1). In slapd what names such a type, in `attrs=`, in a test of a filter or in `dnattr=`, is about the
-- attributes of the types below it too (slapd.access(5)). Here it is about the attributes of the type alone.
use Rattle.std.specs.Prelude.{ℕ, Bool, false, ◌&&◌, ◌||◌, ◌==◌, List, [], codes, Option, Some, None, option_and_then, Result, Ok, Err}
use Rattle.std.specs.List.{before_first, list_any}
use Rattle.dir_names.specs.Ascii.{semicolon}
use Rattle.dir_names.specs.Attr.{Attr}
use Rattle.dir_names.specs.Definitions.{definition_of}
use Rattle.dir_names.specs.Described.{Described}
use Rattle.dir_names.specs.Descriptions.{description_of}
use Rattle.dir_names.specs.Orders.{attr_eq}
use Rattle.dir_names.specs.Table.{is_known}
use Rattle.dir_names.specs.declared.fault.NameFault.{NameFault}
use Rattle.dir_names.specs.declared.schema.TypeRow.{TypeRow}
use Rattle.dir_conf_text.specs.Text.{definition_by}
use Rattle.dir_conf_text.specs.declared.text.ConfigLine.{ConfigLine}
use Rattle.dir_conf_text.specs.declared.text.Said.{Said}

-- the types that rules may name: those that are known, and those of them from which others are derived
pub record NotedTypes : Type 0 where
  pub rows : List TypeRow
  pub has_subtypes : Attr → Bool

-- an attribute of the same type, without options
abbrev pub without_options : Attr → Attr
without_options attr = record { attr_type = attr.attr_type; options = [] }

-- the type that a description begins with, before its options
abbrev pub attr_read : Result Described NameFault → Option Attr
attr_read (Ok description) = Some description.key
attr_read (Err fault) = None

abbrev pub type_named : List TypeRow → List ℕ → Option Attr
type_named rows spelling = attr_read (description_of rows (before_first (λ b. b == semicolon) spelling))

-- ---- which types others are derived from

-- the type after SUP in the definition that a line has
abbrev pub sup_in : Said → Option (List ℕ)
sup_in said = option_and_then (λ d. d.sup) (option_and_then definition_of (definition_by said))

-- it is the type that was named, and that is known
abbrev pub is_named : List TypeRow → Attr → Option Attr → Bool
is_named rows attr None = false
is_named rows attr (Some named) = is_known rows named && attr_eq named attr

-- a line derives a type from this one
abbrev pub derives_from : List TypeRow → Attr → Said → Bool
derives_from rows attr said = is_named rows attr (option_and_then (type_named rows) (sup_in said))

-- those of the standards, from which built-in types are derived (RFC 4519, sections 2.18 and 2.7)
abbrev pub is_standard : List TypeRow → Attr → Bool
is_standard rows attr = is_named rows attr (type_named rows (codes "name")) || is_named rows attr (type_named rows (codes "distinguishedName"))

abbrev pub noted_types : List TypeRow → List ConfigLine → NotedTypes
noted_types rows lines = record { rows = rows; has_subtypes = λ attr. is_standard rows attr || list_any (λ line. derives_from rows attr line.said) lines }

-- ---- a description

abbrev pub has_those : NotedTypes → Option Attr → Bool
has_those types None = false
has_those types (Some attr) = types.has_subtypes attr

abbrev pub is_supertype : NotedTypes → List ℕ → Bool
is_supertype types spelling = has_those types (type_named types.rows spelling)
