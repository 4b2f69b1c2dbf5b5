-- What a slapd.conf says that is passed over here, or taken for something of its own, so that an answer may rest on what isn't known (slapd.conf(5),
-- slapd.access(5)). `notes_of` at the end of this page is the whole: the notes of each line in turn, and last that there is no rule. A description in `dnattr=` or
-- `group/CLASS/ATTR` is of a known type wherever the rule is read: of a type that isn't known nobody knows that its values are names. In slapd too the attribute of a
-- group is of this type alone, and not of one that is derived from it.
pub mod Halves
pub mod Known
pub mod Supertypes
use Rattle.std.specs.Prelude.{ℕ, Bool, true, false, cond, not, ◌&&◌, ◌||◌, ◌==◌, nat_eq, List, [], ◌∷◌, ◌++◌, codes, Option, Some, None, Result, Ok, Err}
use Rattle.std.specs.List.{before_first, starts_with}
use Rattle.dir_names.specs.Ascii.{comma, equals_sign}
use Rattle.dir_names.specs.Cut.{after_first_separator, parts_at}
use Rattle.dir_names.specs.Described.{Described}
use Rattle.dir_names.specs.Descriptions.{description_of}
use Rattle.dir_names.specs.Table.{is_known}
use Rattle.dir_names.specs.declared.fault.NameFault.{NameFault}
use Rattle.dir_names.specs.declared.schema.TypeRow.{TypeRow}
use Rattle.dir_acl.specs.declared.access.Edit.{Edit}
use Rattle.dir_acl.specs.declared.note.Note.{Note}
use Rattle.dir_acl.specs.declared.note.NoteCause.{NoteCause}
use Rattle.dir_acl.specs.declared.note.NoteCause.TheVariants.{Include, UnknownType, Supertype, ObjectClass, HalfOfWrite, OtherDatabase, NoRule}
use Rattle.dir_conf_text.specs.Text.{config_lines, words_by}
use Rattle.dir_conf_text.specs.declared.text.ConfigLine.{ConfigLine}
use Rattle.dir_conf_text.specs.Keywords.{is_word}
use Rattle.dir_acl.specs.Config.Names.{form_of}
use Rattle.dir_acl.specs.Config.Permissions.{edit_of}
use Rattle.dir_acl.specs.Filters.{begins_test, in_parentheses}
use Rattle.dir_acl.specs.Notes.Halves.{takes_half}
use Rattle.dir_acl.specs.Notes.Supertypes.{NotedTypes, is_supertype, noted_types}
use Rattle.dir_acl.specs.Signs.{open_parenthesis}
use Rattle.dir_acl.specs.Tests.{described_by, operator_of}

abbrev pub note_at : ℕ → NoteCause → Note
note_at line cause = record { line = line; cause = cause }

-- ---- a description, in a rule that begins at line `n`

-- a type from which others are derived
abbrev pub supertype_notes : NotedTypes → ℕ → Described → List Note
supertype_notes types n description = cond (is_supertype types description.spelling) (note_at n (Supertype description.spelling) ∷ []) []

-- or one that isn't known
abbrev pub type_notes : NotedTypes → ℕ → Described → List Note
type_notes types n description = cond (is_known types.rows description.key) (supertype_notes types n description) (note_at n (UnknownType description.spelling) ∷ [])

abbrev pub named_notes : NotedTypes → ℕ → Result Described NameFault → List Note
named_notes types n (Ok description) = type_notes types n description
named_notes types n (Err fault) = []

-- ---- `attrs=LIST`

-- each item but the pseudo attributes `entry` and `children` is a description
abbrev pub item_notes : NotedTypes → ℕ → List ℕ → List Note
item_notes types n text = cond (is_word text (codes "entry") || is_word text (codes "children")) [] (named_notes types n (description_of types.rows text))

abbrev pub items_notes : NotedTypes → ℕ → List (List ℕ) → List Note
items_notes types n [] = []
items_notes types n (text ∷ texts) = item_notes types n text ++ items_notes types n texts

-- ---- `filter=FILTER`

-- `=*` and the end of the test ask whether the attribute is there
abbrev pub asks_presence : Option (List ℕ) → Bool
asks_presence None = false
asks_presence (Some value) = starts_with nat_eq value (codes "*)")

-- objectClass, by its name or its number
abbrev pub is_object_class : List ℕ → Bool
is_object_class spelling = is_word spelling (codes "objectClass") || is_word spelling (codes "2.5.4.0")

-- which classes an entry has: those above the ones that it lists are not looked at
abbrev pub class_notes : ℕ → Described → Option (List ℕ) → List Note
class_notes n description value = cond (is_object_class description.spelling && not (asks_presence value)) (note_at n ObjectClass ∷ []) []

abbrev pub tested_notes : NotedTypes → ℕ → Option (List ℕ) → Result Described NameFault → List Note
tested_notes types n value (Ok description) = type_notes types n description ++ class_notes n description value
tested_notes types n value (Err fault) = []

-- the description of a test is what is before its operator
abbrev pub compared_notes : NotedTypes → ℕ → List ℕ → Option (List ℕ) → List Note
compared_notes types n before value = tested_notes types n value (description_of types.rows (described_by (operator_of before) before))

-- the test that a text begins with
abbrev pub test_notes : NotedTypes → ℕ → List ℕ → List Note
test_notes types n text = compared_notes types n (before_first (λ b. b == equals_sign) text) (after_first_separator equals_sign text)

-- after a `(` stands a test, unless a list of filters or a negation begins (RFC 4515, section 3). No value has a `(`
abbrev pub opened_notes : NotedTypes → ℕ → ℕ → List ℕ → List Note
opened_notes types n b after = cond (b == open_parenthesis && begins_test after) (test_notes types n after) []

abbrev pub tests_notes : NotedTypes → ℕ → List ℕ → List Note
tests_notes types n [] = []
tests_notes types n (b ∷ after) = opened_notes types n b after ++ tests_notes types n after

abbrev pub filter_notes : NotedTypes → ℕ → List ℕ → List Note
filter_notes types n text = tests_notes types n (in_parentheses text)

-- ---- an <access>

abbrev pub edit_notes : ℕ → Option Edit → List Note
edit_notes n None = []
edit_notes n (Some edit) = cond (takes_half edit) (note_at n HalfOfWrite ∷ []) []

-- ---- the words of a rule

abbrev pub dnattr_notes : NotedTypes → ℕ → List ℕ → List ℕ → List Note
dnattr_notes types n form text = cond (is_word form (codes "dnattr")) (named_notes types n (description_of types.rows text)) []

abbrev pub attrs_notes : NotedTypes → ℕ → List ℕ → List ℕ → List Note
attrs_notes types n form text = cond (is_word form (codes "attrs")) (items_notes types n (parts_at comma text)) (dnattr_notes types n form text)

abbrev pub form_notes : NotedTypes → ℕ → List ℕ → Option (List ℕ) → List Note
form_notes types n form None = []
form_notes types n form (Some text) =
    cond (is_word form (codes "filter")) (filter_notes types n text) (attrs_notes types n form text)

abbrev pub word_notes : NotedTypes → ℕ → Option (List ℕ) → List Note
word_notes types n None = []
word_notes types n (Some word) = edit_notes n (edit_of word) ++ form_notes types n (form_of word) (after_first_separator equals_sign word)

abbrev pub rule_notes : NotedTypes → ℕ → List (Option (List ℕ)) → List Note
rule_notes types n [] = []
rule_notes types n (word ∷ words) = word_notes types n word ++ rule_notes types n words

-- ---- lines

abbrev pub begins_with : List (Option (List ℕ)) → List ℕ → Bool
begins_with [] keyword = false
begins_with (None ∷ words) keyword = false
begins_with (Some word ∷ words) keyword = is_word word keyword

abbrev pub after_keyword : List (Option (List ℕ)) → List (Option (List ℕ))
after_keyword [] = []
after_keyword (word ∷ words) = words

-- whether the lines after this one are passed over: they are in the part of `database config` or `database monitor`
abbrev pub passed_after : Bool → List (Option (List ℕ)) → Bool
passed_after passed words =
    cond (begins_with words (codes "database")) (begins_with (after_keyword words) (codes "config") || begins_with (after_keyword words) (codes "monitor")) passed

-- a rule that is not passed over
abbrev pub is_rule : Bool → List (Option (List ℕ)) → Bool
is_rule passed words = not passed && begins_with words (codes "access")

-- the file of an `include`
abbrev pub file_of : List (Option (List ℕ)) → List ℕ
file_of [] = []
file_of (None ∷ words) = []
file_of (Some word ∷ words) = word

-- in a part that is passed over a rule is noted, and no other line
abbrev pub passed_notes : ℕ → List (Option (List ℕ)) → List Note
passed_notes n words = cond (begins_with words (codes "access")) (note_at n OtherDatabase ∷ []) []

abbrev pub read_notes : NotedTypes → ℕ → List (Option (List ℕ)) → List Note
read_notes types n words =
    cond (begins_with words (codes "access")) (rule_notes types n (after_keyword words))
    (cond (begins_with words (codes "include")) (note_at n (Include (file_of (after_keyword words))) ∷ []) [])

abbrev pub line_notes : NotedTypes → Bool → ℕ → List (Option (List ℕ)) → List Note
line_notes types passed n words = cond passed (passed_notes n words) (read_notes types n words)

-- after the last line: whether there was a rule
abbrev pub end_notes : Bool → List Note
end_notes has = cond has [] (note_at 0 NoRule ∷ [])

-- the notes of these lines: `passed` tells whether the first is passed over, `has` whether there was a rule before
abbrev pub lines_notes : NotedTypes → Bool → Bool → List ConfigLine → List Note
lines_notes types passed has [] = end_notes has
lines_notes types passed has (line ∷ lines) =
    line_notes types passed line.number (words_by line.said) ++ lines_notes types (passed_after passed (words_by line.said)) (has || is_rule passed (words_by line.said)) lines

-- the notes on lines that read as a configuration
abbrev pub notes_of_lines : List TypeRow → List ConfigLine → List Note
notes_of_lines rows lines = lines_notes (noted_types rows lines) false false lines

abbrev pub notes_of : List TypeRow → List ℕ → List Note
notes_of rows text = notes_of_lines rows (config_lines text)
