-- The words of a <what> (slapd.access(5), "THE <WHAT> FIELD").
use Rattle.std.specs.Prelude.{ℕ, Bool, true, false, cond, List, [], ◌∷◌, ◌++◌, codes, Option, Some, None, Result, Ok, Err}
use Rattle.std.specs.List.{list_any}
use Rattle.dir_names.specs.Ascii.{comma, equals_sign}
use Rattle.dir_names.specs.Cut.{after_first_separator, parts_at}
use Rattle.dir_names.specs.Results.{and_then}
use Rattle.dir_names.specs.declared.schema.TypeRow.{TypeRow}
use Rattle.dir_acl.specs.declared.access.Asked.{Asked}
use Rattle.dir_acl.specs.declared.access.Asked.TheVariants as asked
use Rattle.dir_acl.specs.declared.access.Style.{Style}
use Rattle.dir_acl.specs.declared.config.whats.Form.{Form}
use Rattle.dir_acl.specs.declared.config.whats.Form.TheVariants as form
use Rattle.dir_acl.specs.declared.fault.ConfigCause.{ConfigCause}
use Rattle.dir_acl.specs.declared.fault.ConfigCause.TheVariants as cause
use Rattle.dir_acl.specs.declared.fault.FilterFault.{FilterFault}
use Rattle.dir_acl.specs.declared.fault.FilterFault.TheVariants as fault
use Rattle.dir_conf_text.specs.Keywords.{is_word}
use Rattle.dir_acl.specs.Config.Names.{attr_at, form_of, name_at, style_of}
use Rattle.dir_acl.specs.Filters.{Tree}
use Rattle.dir_acl.specs.Filters.Reading.{filter_of}
use Rattle.dir_acl.specs.Rules.{OpenRestriction, Restriction, open_classes, open_filter, open_name, open_types, open_value, to_names, to_filter, to_attrs, to_open}

-- ---- `attrs=LIST`

-- an item of the list: the pseudo attributes `entry` and `children`, or a description
abbrev pub item_at : List TypeRow → List ℕ → Result Asked ConfigCause
item_at rows text =
    cond (is_word text (codes "entry")) (Ok asked.Entry)
    (cond (is_word text (codes "children")) (Ok asked.Children) (and_then (attr_at rows text) (λ attr. Ok (asked.Attribute attr))))

-- the items so far, and those of these texts
abbrev pub items_after : List TypeRow → List Asked → List (List ℕ) → Result (List Asked) ConfigCause
items_after rows items [] = Ok items
items_after rows items (text ∷ texts) = and_then (item_at rows text) (λ item. items_after rows (items ++ item ∷ []) texts)

abbrev pub items_at : List TypeRow → List ℕ → Result (List Asked) ConfigCause
items_at rows text = items_after rows [] (parts_at comma text)

-- ---- `filter=FILTER`

abbrev pub filter_cause : FilterFault → ConfigCause
filter_cause fault.BadFilter = cause.BadFilter
filter_cause fault.TooDeep = cause.FilterTooDeep
filter_cause fault.Memory = cause.Memory

abbrev pub filter_by : Result Tree FilterFault → Result Tree ConfigCause
filter_by (Ok t) = Ok t
filter_by (Err fault) = Err (filter_cause fault)

abbrev pub filter_at : List TypeRow → List ℕ → Result Tree ConfigCause
filter_at rows text = filter_by (filter_of rows text)

-- ---- the parts of a <what>

abbrev pub is_open_form : Form → OpenRestriction → Bool
is_open_form form.Dn open_name = true
is_open_form form.Dn open_filter = false
is_open_form form.Dn open_value = false
is_open_form form.Dn (open_types items) = false
is_open_form form.Dn (open_classes items) = false
is_open_form form.Filter open_name = false
is_open_form form.Filter open_filter = true
is_open_form form.Filter open_value = false
is_open_form form.Filter (open_types items) = false
is_open_form form.Filter (open_classes items) = false
is_open_form form.Attrs open_name = false
is_open_form form.Attrs open_filter = false
is_open_form form.Attrs open_value = false
is_open_form form.Attrs (open_types items) = true
is_open_form form.Attrs (open_classes items) = true

abbrev pub is_of_form : Form → Restriction → Bool
is_of_form form.Dn (to_names style name) = true
is_of_form form.Dn (to_filter filter) = false
is_of_form form.Dn (to_attrs items) = false
is_of_form form.Filter (to_names style name) = false
is_of_form form.Filter (to_filter filter) = true
is_of_form form.Filter (to_attrs items) = false
is_of_form form.Attrs (to_names style name) = false
is_of_form form.Attrs (to_filter filter) = false
is_of_form form.Attrs (to_attrs items) = true
is_of_form form.Dn (to_open what) = is_open_form form.Dn what
is_of_form form.Filter (to_open what) = is_open_form form.Filter what
is_of_form form.Attrs (to_open what) = is_open_form form.Attrs what

-- each form may be there once
abbrev pub if_new : Form → List Restriction → Result (List Restriction) ConfigCause → Result (List Restriction) ConfigCause
if_new form whats longer = cond (list_any (is_of_form form) whats) (Err cause.BadDirective) longer

abbrev pub with_name : List TypeRow → List Restriction → Style → List ℕ → Result (List Restriction) ConfigCause
with_name rows whats style text = if_new form.Dn whats (and_then (name_at rows text) (λ name. Ok (whats ++ to_names style name ∷ [])))

abbrev pub with_filter : List TypeRow → List Restriction → List ℕ → Result (List Restriction) ConfigCause
with_filter rows whats text = if_new form.Filter whats (and_then (filter_at rows text) (λ filter. Ok (whats ++ to_filter filter ∷ [])))

abbrev pub with_attrs : List TypeRow → List Restriction → List ℕ → Result (List Restriction) ConfigCause
with_attrs rows whats text = if_new form.Attrs whats (and_then (items_at rows text) (λ items. Ok (whats ++ to_attrs items ∷ [])))

-- `dn[.STYLE]=NAME`, if the form has a style
abbrev pub with_style : List TypeRow → List Restriction → Option Style → List ℕ → Result (List Restriction) ConfigCause
with_style rows whats None text = Err cause.Unsupported
with_style rows whats (Some style) text = with_name rows whats style text

abbrev pub with_form : List TypeRow → List Restriction → List ℕ → List ℕ → Result (List Restriction) ConfigCause
with_form rows whats form text =
    cond (is_word form (codes "filter")) (with_filter rows whats text)
    (cond (is_word form (codes "attrs")) (with_attrs rows whats text) (with_style rows whats (style_of form) text))

abbrev pub with_value : List TypeRow → List Restriction → List ℕ → Option (List ℕ) → Result (List Restriction) ConfigCause
with_value rows whats form None = Err cause.Unsupported
with_value rows whats form (Some text) = with_form rows whats form text

-- the <what> with one word more. `*` restricts nothing
abbrev pub with_what : List TypeRow → List Restriction → List ℕ → Result (List Restriction) ConfigCause
with_what rows whats word = cond (is_word word (codes "*")) (Ok whats) (with_value rows whats (form_of word) (after_first_separator equals_sign word))
