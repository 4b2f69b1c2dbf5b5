-- Names and descriptions in a slapd.conf.
use Rattle.std.specs.Prelude.{ℕ, Bool, true, false, cond, ◌||◌, ◌==◌, List, codes, ok_or, Option, Some, None, Result, Ok, Err}
use Rattle.std.specs.List.{before_first, list_any}
use Rattle.dir_names.specs.Ascii.{equals_sign, semicolon}
use Rattle.dir_names.specs.Attr.{Attr}
use Rattle.dir_names.specs.Described.{Described}
use Rattle.dir_names.specs.Descriptions.{description_of}
use Rattle.dir_names.specs.Keys.{DnKeys}
use Rattle.dir_names.specs.NameKeys.{name_value_key, value_key_of}
use Rattle.dir_names.specs.Results.{and_then}
use Rattle.dir_names.specs.Table.{rule_of}
use Rattle.dir_names.specs.declared.fault.NameFault.{NameFault}
use Rattle.dir_names.specs.declared.fault.NameFault.TheVariants as fault
use Rattle.dir_names.specs.declared.schema.Rule.{Rule}
use Rattle.dir_names.specs.declared.schema.Rule.TheVariants as rule
use Rattle.dir_names.specs.declared.schema.TypeRow.{TypeRow}
use Rattle.dir_names.specs.declared.value.ValueKey.{ValueKey}
use Rattle.dir_conf_text.specs.Keywords.{is_word}
use Rattle.dir_acl.specs.declared.access.Style.{Style}
use Rattle.dir_acl.specs.declared.access.Style.TheVariants as style
use Rattle.dir_acl.specs.declared.fault.ConfigCause.{ConfigCause}
use Rattle.dir_acl.specs.declared.fault.ConfigCause.TheVariants.{Name, Unsupported}

-- the form of a word: what is before its first `=`
abbrev pub form_of : List ℕ → List ℕ
form_of word = before_first (λ b. b == equals_sign) word

-- ---- names

-- the style of a form `dn[.STYLE]`. Without one it is `base`
abbrev pub style_of : List ℕ → Option Style
style_of form =
    cond (is_word form (codes "dn") || (is_word form (codes "dn.base") || (is_word form (codes "dn.baseobject") || is_word form (codes "dn.exact")))) (Some style.Base)
    (cond (is_word form (codes "dn.one") || is_word form (codes "dn.onelevel")) (Some style.One)
    (cond (is_word form (codes "dn.sub") || is_word form (codes "dn.subtree")) (Some style.Subtree)
    (cond (is_word form (codes "dn.children")) (Some style.Children) None)))

-- a name that has a key
abbrev pub name_at : List TypeRow → List ℕ → Result DnKeys ConfigCause
name_at rows text = ok_or (name_value_key rows text) Name

-- ---- descriptions

abbrev pub attr_by : Result Described NameFault → Result Attr ConfigCause
attr_by (Ok description) = Ok description.key
attr_by (Err fault) = Err Name

abbrev pub attr_at : List TypeRow → List ℕ → Result Attr ConfigCause
attr_at rows text = attr_by (description_of rows text)

-- an attribute whose values are names; others are not supported
abbrev pub by_rule : Rule → Attr → Result Attr ConfigCause
by_rule rule.Name attr = Ok attr
by_rule rule.Octet attr = Err Unsupported
by_rule rule.CaseIgnore attr = Err Unsupported
by_rule rule.Ia5CaseIgnore attr = Err Unsupported
by_rule rule.Ia5CaseExact attr = Err Unsupported
by_rule rule.Telephone attr = Err Unsupported
by_rule rule.Integer attr = Err Unsupported
by_rule rule.ObjectId attr = Err Unsupported

abbrev pub if_of_names : List TypeRow → Attr → Result Attr ConfigCause
if_of_names rows attr = by_rule (rule_of rows attr) attr

abbrev pub names_attr_at : List TypeRow → List ℕ → Result Attr ConfigCause
names_attr_at rows text = and_then (attr_at rows text) (λ attr. if_of_names rows attr)

-- ---- object classes

-- an object class is written as an attribute type is, known or not: a description without options, where the words that LDIF reserves are like others
abbrev pub is_written_as_type : Result Described NameFault → Bool
is_written_as_type (Ok description) = true
is_written_as_type (Err fault.ReservedName) = true
is_written_as_type (Err fault.BadDescription) = false
is_written_as_type (Err fault.BadValue) = false
is_written_as_type (Err fault.BadDn) = false
is_written_as_type (Err fault.NameLimit) = false
is_written_as_type (Err fault.Memory) = false
is_written_as_type (Err fault.BadType) = false

abbrev pub is_class : List TypeRow → List ℕ → Bool
is_class rows text = cond (list_any (λ b. b == semicolon) text) false (is_written_as_type (description_of rows text))

abbrev pub class_key_by : Result ValueKey NameFault → Result ValueKey ConfigCause
class_key_by (Ok key) = Ok key
class_key_by (Err fault) = Err Name

-- the key of a class as a value of an attribute
abbrev pub class_key_at : List TypeRow → Attr → List ℕ → Result ValueKey ConfigCause
class_key_at rows attr text = cond (is_class rows text) (class_key_by (value_key_of rows attr text)) (Err Name)
