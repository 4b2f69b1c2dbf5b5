-- A slapd.conf of which each access rule may have parts that aren't decided (slapd.access(5)). A form of the manual page that isn't decided is open, and so is what
-- has a note (`Notes`) where it is decided: no answer rests on what isn't known. A word that is no form of the manual page is refused, and so is an `include`, which
-- isn't read.
use Rattle.std.specs.Prelude.{ℕ, Bool, true, false, ◌&&◌, ◌||◌, cond, not, List, [], ◌∷◌, ◌++◌, codes, Option, Some, None, Result, Ok, Err}
use Rattle.std.specs.List.{list_any}
use Rattle.dir_names.specs.Ascii.{comma, equals_sign}
use Rattle.dir_names.specs.Attr.{Attr}
use Rattle.dir_names.specs.Cut.{after_first_separator, parts_at}
use Rattle.dir_names.specs.Descriptions.{description_of}
use Rattle.dir_names.specs.Results.{and_then}
use Rattle.dir_names.specs.declared.schema.TypeRow.{TypeRow}
use Rattle.dir_conf_text.specs.Keywords.{is_word}
use Rattle.dir_conf_text.specs.Text.{words_by}
use Rattle.dir_conf_text.specs.declared.text.ConfigLine.{ConfigLine}
use Rattle.dir_conf_text.specs.declared.text.Said.{Said}
use Rattle.dir_acl.specs.declared.access.Asked.{Asked}
use Rattle.dir_acl.specs.declared.access.Edit.{Edit}
use Rattle.dir_acl.specs.declared.access.OpenWho.TheVariants as open_who
use Rattle.dir_acl.specs.declared.access.Style.{Style}
use Rattle.dir_acl.specs.declared.access.Style.TheVariants as style
use Rattle.dir_acl.specs.declared.access.Who.{Who}
use Rattle.dir_acl.specs.declared.access.Who.TheVariants as who
use Rattle.dir_acl.specs.declared.config.whats.Form.TheVariants as form
use Rattle.dir_acl.specs.declared.fault.ConfigCause.{ConfigCause}
use Rattle.dir_acl.specs.declared.fault.ConfigCause.TheVariants.{BadDirective, BadFilter, BadType, ConfigTooLong, FilterTooDeep, GlobalAccess, Memory, Name, NoSuffix, SecondDatabase, SecondSuffix, Unsupported}
use Rattle.dir_acl.specs.declared.fault.ConfigFault.{ConfigFault}
use Rattle.dir_acl.specs.declared.note.Note.{Note}
use Rattle.dir_acl.specs.Config.{Settings, after_arguments, at_line, no_settings, of_suffix, with_rule}
use Rattle.dir_acl.specs.Config.AccessRules.{Place, after_access, after_control, after_whos, after_word, at_end, before_to, before_what, before_who, first_who, in_what, in_who, is_by}
use Rattle.dir_acl.specs.Config.Names.{form_of, is_class, style_of}
use Rattle.dir_acl.specs.Config.OpenForms.{has_plain_tests, is_open_name, is_open_who, is_value_form, names_class, self_edit, without_real, without_sign}
use Rattle.dir_acl.specs.Config.Permissions.{edit_of}
use Rattle.dir_acl.specs.Config.Whats.{filter_at, if_new, item_at, with_name}
use Rattle.dir_acl.specs.Config.Whos.{who_of}
use Rattle.dir_acl.specs.Filters.{Tree}
use Rattle.dir_acl.specs.Notes.{after_keyword, begins_with, filter_notes, is_rule, items_notes, named_notes}
use Rattle.dir_acl.specs.Notes.Supertypes.{NotedTypes, noted_types}
use Rattle.dir_acl.specs.Rules.{AccessRule, Configuration, Restriction, open_classes, open_filter, open_name, open_types, open_value, to_attrs, to_filter, to_open}

abbrev pub has_notes : List Note → Bool
has_notes [] = false
has_notes (note ∷ notes) = true

-- `dn.STYLE=PATTERN`
abbrev pub with_pattern : List Restriction → List ℕ → Result (List Restriction) ConfigCause
with_pattern whats name = cond (is_open_name name) (if_new form.Dn whats (Ok (whats ++ to_open open_name ∷ []))) (Err Unsupported)

-- ---- an <access>, after the parts of a <who>

abbrev pub open_after_whos : AccessRule → List Who → Option Edit → List ℕ → Result Place ConfigCause
open_after_whos rule whos None word = after_whos rule whos (edit_of word) word
open_after_whos rule whos (Some edit) word = Ok (after_access rule (whos ++ who.Open open_who.Anybody ∷ []) edit)

abbrev pub open_next_who : AccessRule → List Who → List ℕ → Option Who → Result Place ConfigCause
open_next_who rule whos word None = open_after_whos rule whos (self_edit word) word
open_next_who rule whos word (Some w) = Ok (in_who rule (whos ++ w ∷ []))

module _ (types : NotedTypes) where
  -- ---- `attrs=LIST`

  -- the items with those of one more text; a class is none of them
  abbrev pub with_item : List Asked → List ℕ → Result (List Asked) ConfigCause
  with_item items text =
      cond (names_class text) (cond (is_class types.rows (without_sign text)) (Ok items) (Err Name))
      (and_then (item_at types.rows text) (λ item. Ok (items ++ item ∷ [])))

  abbrev pub with_items : List Asked → List (List ℕ) → Result (List Asked) ConfigCause
  with_items items [] = Ok items
  with_items items (text ∷ texts) = and_then (with_item items text) (λ more. with_items more texts)

  -- the list is open if it has a class, or an item with a note
  abbrev pub list_of : List ℕ → List Asked → Restriction
  list_of text items =
      cond (list_any names_class (parts_at comma text)) (to_open (open_classes items))
      (cond (has_notes (items_notes types 0 (parts_at comma text))) (to_open (open_types items)) (to_attrs items))

  abbrev pub with_list : List Restriction → List ℕ → Result (List Restriction) ConfigCause
  with_list whats text = if_new form.Attrs whats (and_then (with_items [] (parts_at comma text)) (λ items. Ok (whats ++ list_of text items ∷ [])))

  -- ---- `filter=FILTER`

  -- a filter is open if it has a note, or a test but of presence and equality
  abbrev pub filter_part : List ℕ → Tree → Restriction
  filter_part text filter = cond (has_plain_tests text && not (has_notes (filter_notes types 0 text))) (to_filter filter) (to_open open_filter)

  abbrev pub with_open_filter : List Restriction → List ℕ → Result (List Restriction) ConfigCause
  with_open_filter whats text = if_new form.Filter whats (and_then (filter_at types.rows text) (λ filter. Ok (whats ++ filter_part text filter ∷ [])))

  -- ---- the parts of a <what>

  -- `*` is every name, in each style
  abbrev pub with_named : List Restriction → Style → List ℕ → Result (List Restriction) ConfigCause
  with_named whats kind text = cond (is_word text (codes "*")) (with_name types.rows whats style.Subtree []) (with_name types.rows whats kind text)

  abbrev pub with_open_style : List Restriction → Option Style → List ℕ → List ℕ → Result (List Restriction) ConfigCause
  with_open_style whats None form text = with_pattern whats form
  with_open_style whats (Some kind) form text = with_named whats kind text

  abbrev pub with_open_form : List Restriction → List ℕ → List ℕ → Result (List Restriction) ConfigCause
  with_open_form whats form text = cond (is_value_form form) (Ok (whats ++ to_open open_value ∷ [])) (with_open_style whats (style_of form) form text)

  -- `attr` is another word for `attrs`
  abbrev pub with_read_form : List Restriction → List ℕ → List ℕ → Result (List Restriction) ConfigCause
  with_read_form whats form text =
      cond (is_word form (codes "filter")) (with_open_filter whats text)
      (cond (is_word form (codes "attrs") || is_word form (codes "attr")) (with_list whats text) (with_open_form whats form text))

  abbrev pub with_open_value : List Restriction → List ℕ → Option (List ℕ) → Result (List Restriction) ConfigCause
  with_open_value whats form None = Err Unsupported
  with_open_value whats form (Some text) = with_read_form whats form text

  abbrev pub with_open_what : List Restriction → List ℕ → Result (List Restriction) ConfigCause
  with_open_what whats word = cond (is_word word (codes "*")) (Ok whats) (with_open_value whats (form_of word) (after_first_separator equals_sign word))

  -- ---- the parts of a <who>

  -- `dnattr=` of a type with a note
  abbrev pub named_by : List ℕ → Attr → Who
  named_by text attr = cond (has_notes (named_notes types 0 (description_of types.rows text))) (who.Open (open_who.DnAttr attr)) (who.DnAttr attr)

  abbrev pub named_in : Option (List ℕ) → Attr → Who
  named_in None attr = who.DnAttr attr
  named_in (Some text) attr = named_by text attr

  abbrev pub opened_who : List ℕ → Who → Who
  opened_who word who.Anyone = who.Anyone
  opened_who word who.Anonymous = who.Anonymous
  opened_who word who.Users = who.Users
  opened_who word who.Myself = who.Myself
  opened_who word (who.Dn style name) = who.Dn style name
  opened_who word (who.DnAttr attr) = named_in (after_first_separator equals_sign word) attr
  opened_who word (who.Group name class_attr class member) = who.Group name class_attr class member
  opened_who word (who.Open part) = who.Open part

  -- a group or an attribute whose values aren't names, or aren't known to be names, is open too
  abbrev pub opened : List ℕ → Result (Option Who) ConfigCause → Result (Option Who) ConfigCause
  opened word (Ok None) = Ok None
  opened word (Ok (Some w)) = Ok (Some (opened_who word w))
  opened word (Err Unsupported) = Ok (Some (who.Open open_who.Somebody))
  opened word (Err BadDirective) = Err BadDirective
  opened word (Err BadFilter) = Err BadFilter
  opened word (Err Name) = Err Name
  opened word (Err SecondDatabase) = Err SecondDatabase
  opened word (Err SecondSuffix) = Err SecondSuffix
  opened word (Err GlobalAccess) = Err GlobalAccess
  opened word (Err FilterTooDeep) = Err FilterTooDeep
  opened word (Err Memory) = Err Memory
  opened word (Err NoSuffix) = Err NoSuffix
  opened word (Err ConfigTooLong) = Err ConfigTooLong
  opened word (Err BadType) = Err BadType

  abbrev pub open_identity_of : List ℕ → Result (Option Who) ConfigCause
  open_identity_of word = cond (is_open_who word) (Ok (Some (who.Open open_who.Anybody))) (opened word (who_of types.rows word))

  abbrev pub open_who_of : List ℕ → Result (Option Who) ConfigCause
  open_who_of word = open_identity_of (without_real word)

  -- ---- words

  abbrev pub after_open_what : List Restriction → List ℕ → Result Place ConfigCause
  after_open_what whats word = and_then (with_open_what whats word) (λ more. Ok (in_what more))

  abbrev pub after_open_word : Place → List ℕ → Result Place ConfigCause
  after_open_word before_to word = after_word types.rows before_to word
  after_open_word before_what word = after_open_what [] word
  after_open_word (in_what whats) word = cond (is_by word) (Ok (before_who (record { what = whats; clauses = [] }))) (after_open_what whats word)
  after_open_word (before_who rule) word = and_then (open_who_of word) (λ who. first_who rule who)
  after_open_word (in_who rule whos) word = and_then (open_who_of word) (λ who. open_next_who rule whos word who)
  after_open_word (after_access rule whos edit) word = after_word types.rows (after_access rule whos edit) word
  after_open_word (after_control rule) word = after_word types.rows (after_control rule) word

  abbrev pub after_open_argument : Place → Option (List ℕ) → Result Place ConfigCause
  after_open_argument place None = Err BadDirective
  after_open_argument place (Some word) = after_open_word place word

  -- ---- the whole rule

  abbrev pub open_rule_from : Place → List (Option (List ℕ)) → Result AccessRule ConfigCause
  open_rule_from place [] = at_end place
  open_rule_from place (argument ∷ arguments) = and_then (after_open_argument place argument) (λ next. open_rule_from next arguments)

  abbrev pub open_rule_of : List (Option (List ℕ)) → Result AccessRule ConfigCause
  open_rule_of arguments = open_rule_from before_to arguments

  -- ---- lines

  abbrev pub open_access : Settings → List (Option (List ℕ)) → Result Settings ConfigCause
  open_access settings arguments = cond (not settings.has_database) (Err GlobalAccess) (and_then (open_rule_of arguments) (λ rule. Ok (with_rule settings rule)))

  abbrev pub after_open_words : Settings → List (Option (List ℕ)) → Result Settings ConfigCause
  after_open_words settings words =
      cond (is_rule settings.is_passed_over words) (open_access settings (after_keyword words))
      (cond (begins_with words (codes "include")) (Err Unsupported) (after_arguments types.rows settings words))

  abbrev pub after_open_line : Settings → Said → Result Settings ConfigCause
  after_open_line settings said = after_open_words settings (words_by said)

  abbrev pub after_open_lines : Settings → List ConfigLine → Result Settings ConfigFault
  after_open_lines settings [] = Ok settings
  after_open_lines settings (line ∷ lines) = and_then (at_line line.number (after_open_line settings line.said)) (λ next. after_open_lines next lines)

-- ---- the whole

abbrev pub open_config_of_lines : List TypeRow → List ConfigLine → Result Configuration ConfigFault
open_config_of_lines rows lines = and_then (after_open_lines (noted_types rows lines) no_settings lines) (λ settings. of_suffix settings settings.suffix)
