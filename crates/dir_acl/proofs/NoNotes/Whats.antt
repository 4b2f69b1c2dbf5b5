-- A <what> without a note names known types alone.
use Rattle.std.proofs.Common.{◌≡◌, ℕ, Bool, true, false, cond, List, [], ◌∷◌, ◌++◌, Option, Some, None, Result, Ok, Err, refl, sym, ap, ◌∙◌}
use Rattle.std.specs.Prelude.{◌||◌, codes}
use Rattle.std.specs.List.{list_all, list_any}
use Rattle.std.proofs.lemmas.List.{append-nil}
use Rattle.dir_names.specs.Cut.{after_first_separator, parts_at}
use Rattle.dir_names.specs.Described.{Described}
use Rattle.dir_names.specs.Descriptions.{description_of}
use Rattle.dir_names.specs.Keys.{DnKeys}
use Rattle.dir_names.specs.Results.{and_then}
use Rattle.dir_names.specs.declared.fault.NameFault.{NameFault}
use Rattle.dir_acl.specs.declared.access.Asked.{Asked}
use Rattle.dir_acl.specs.declared.access.Asked.TheVariants as asked
use Rattle.dir_acl.specs.declared.access.Style.{Style}
use Rattle.dir_acl.specs.declared.config.whats.Form.TheVariants as form
use Rattle.dir_acl.specs.declared.fault.ConfigCause.{ConfigCause}
use Rattle.dir_acl.specs.declared.fault.ConfigCause.TheVariants as cause
use Rattle.dir_acl.specs.declared.fault.FilterFault.{FilterFault}
use Rattle.dir_conf_text.specs.Keywords.{is_word}
use Rattle.dir_acl.specs.Config.Names.{attr_by, form_of, name_at, style_of}
use Rattle.dir_acl.specs.Config.Permissions.{edit_of}
use Rattle.dir_acl.specs.Config.Whats.{filter_by, is_of_form, item_at, items_after, items_at, with_attrs, with_filter, with_form, with_style, with_value, with_what}
use Rattle.dir_acl.specs.Filters.{Tree, in_parentheses}
use Rattle.dir_acl.specs.Filters.Reading.{filter_of}
use Rattle.dir_acl.specs.Notes.{dnattr_notes, edit_notes, filter_notes, form_notes, item_notes, items_notes, named_notes, tests_notes, word_notes}
use Rattle.dir_acl.specs.Notes.Known.{asked_known, what_known}
use Rattle.dir_acl.specs.Notes.Supertypes.{NotedTypes}
use Rattle.dir_acl.specs.Rules.{Restriction, to_names, to_filter, to_attrs}
use Rattle.dir_acl.proofs.Grammar.Exact.{read_is_spelled}
use Rattle.dir_acl.proofs.NoNotes.Filters.{tree_known}
use Rattle.dir_acl.proofs.NoNotes.Lists.{all_pushed, left_empty, right_empty}
use Rattle.dir_acl.proofs.NoNotes.Types.{clear_if}

module _ (types : NotedTypes) (n : ℕ) where
  -- ---- `attrs=LIST`

  abbrev item_fine : Result Asked ConfigCause → Bool
  item_fine (Ok item) = asked_known types item
  item_fine (Err c) = true

  item_known : (text : List ℕ) (item : Asked) → item_at types.rows text ≡ Ok item → item_notes types n text ≡ [] → asked_known types item ≡ true
  item_known text item e notes = by (is_word text (codes "entry")) (is_word text (codes "children")) (description_of types.rows text) refl e notes
    where
      by : (a b : Bool) (d : Result Described NameFault) → description_of types.rows text ≡ d
          → cond a (Ok asked.Entry) (cond b (Ok asked.Children) (and_then (attr_by d) (λ attr. Ok (asked.Attribute attr)))) ≡ Ok item
          → cond (a || b) [] (named_notes types n d) ≡ [] → asked_known types item ≡ true
      by true b d w e notes = sym (ap item_fine e)
      by false true d w e notes = sym (ap item_fine e)
      by false false (Err fault) w e notes = absurd (cc)
      by false false (Ok d) w e notes = sym (ap item_fine e) ∙ clear_if types n text d w notes

  abbrev items_fine : Result (List Asked) ConfigCause → Bool
  items_fine (Ok items) = list_all (asked_known types) items
  items_fine (Err c) = true

  items_known : (texts : List (List ℕ)) (items out : List Asked) → items_after types.rows items texts ≡ Ok out → list_all (asked_known types) items ≡ true → items_notes types n texts ≡ []
      → list_all (asked_known types) out ≡ true
  items_known [] items out e so notes = sym (ap items_fine e) ∙ so
  items_known (text ∷ texts) items out e so notes =
      by (λ item f known. items_known texts (items ++ item ∷ []) out f known (right_empty (item_notes types n text) (items_notes types n texts) notes)) (item_at types.rows text) refl e
    where
      by : ((item : Asked) → items_after types.rows (items ++ item ∷ []) texts ≡ Ok out → list_all (asked_known types) (items ++ item ∷ []) ≡ true → list_all (asked_known types) out ≡ true)
          → (r : Result Asked ConfigCause) → item_at types.rows text ≡ r → and_then r (λ item. items_after types.rows (items ++ item ∷ []) texts) ≡ Ok out → list_all (asked_known types) out ≡ true
      by rest (Err c) w e = absurd (cc)
      by rest (Ok item) w e = rest item e (all_pushed (asked_known types) items item so (item_known text item w (left_empty (item_notes types n text) (items_notes types n texts) notes)))

  -- ---- the words of a <what>

  abbrev whats_fine : Result (List Restriction) ConfigCause → Bool
  whats_fine (Ok whats) = list_all (what_known types) whats
  whats_fine (Err c) = true

  module _ (whats : List Restriction) (so : list_all (what_known types) whats ≡ true) where
    with_last : (what : Restriction) → what_known types what ≡ true → list_all (what_known types) (whats ++ what ∷ []) ≡ true
    with_last what known = all_pushed (what_known types) whats what so known

    attrs_fine : (text : List ℕ) → items_notes types n (parts_at 44 text) ≡ [] → whats_fine (with_attrs types.rows whats text) ≡ true
    attrs_fine text notes = by (list_any (is_of_form form.Attrs) whats) (items_at types.rows text) refl
      where
        by : (b : Bool) (r : Result (List Asked) ConfigCause) → items_at types.rows text ≡ r → whats_fine (cond b (Err cause.BadDirective) (and_then r (λ items. Ok (whats ++ to_attrs items ∷ [])))) ≡ true
        by true r w = refl
        by false (Err c) w = refl
        by false (Ok items) w = with_last (to_attrs items) (items_known (parts_at 44 text) [] items w refl notes)

    filter_fine : (text : List ℕ) → filter_notes types n text ≡ [] → whats_fine (with_filter types.rows whats text) ≡ true
    filter_fine text notes = by (list_any (is_of_form form.Filter) whats) (filter_of types.rows text) refl
      where
        by : (b : Bool) (r : Result Tree FilterFault) → filter_of types.rows text ≡ r → whats_fine (cond b (Err cause.BadDirective) (and_then (filter_by r) (λ filter. Ok (whats ++ to_filter filter ∷ [])))) ≡ true
        by true r w = refl
        by false (Err fault) w = refl
        by false (Ok t) w =
            with_last (to_filter t)
            (tree_known types n t (in_parentheses text) [] (read_is_spelled types.rows text t w) (ap (tests_notes types n) (append-nil (in_parentheses text)) ∙ notes))

    style_fine : (style : Option Style) (text : List ℕ) → whats_fine (with_style types.rows whats style text) ≡ true
    style_fine None text = refl
    style_fine (Some style) text = by (list_any (is_of_form form.Dn) whats) (name_at types.rows text)
      where
        by : (b : Bool) (r : Result DnKeys ConfigCause) → whats_fine (cond b (Err cause.BadDirective) (and_then r (λ name. Ok (whats ++ to_names style name ∷ [])))) ≡ true
        by true r = refl
        by false (Err c) = refl
        by false (Ok name) = with_last (to_names style name) refl

    form_fine : (form text : List ℕ) → form_notes types n form (Some text) ≡ [] → whats_fine (with_form types.rows whats form text) ≡ true
    form_fine form text notes = by (is_word form (codes "filter")) (is_word form (codes "attrs")) notes
      where
        by : (f a : Bool) → cond f (filter_notes types n text) (cond a (items_notes types n (parts_at 44 text)) (dnattr_notes types n form text)) ≡ []
            → whats_fine (cond f (with_filter types.rows whats text) (cond a (with_attrs types.rows whats text) (with_style types.rows whats (style_of form) text))) ≡ true
        by true a notes = filter_fine text notes
        by false true notes = attrs_fine text notes
        by false false notes = style_fine (style_of form) text

    pub what_fine : (word : List ℕ) → word_notes types n (Some word) ≡ [] → whats_fine (with_what types.rows whats word) ≡ true
    what_fine word notes =
        by (is_word word (codes "*")) (after_first_separator 61 word)
        (right_empty (edit_notes n (edit_of word)) (form_notes types n (form_of word) (after_first_separator 61 word)) notes)
      where
        by : (b : Bool) (value : Option (List ℕ)) → form_notes types n (form_of word) value ≡ [] → whats_fine (cond b (Ok whats) (with_value types.rows whats (form_of word) value)) ≡ true
        by true value notes = so
        by false None notes = refl
        by false (Some text) notes = form_fine (form_of word) text notes

  pub whats_known : (whats out : List Restriction) (word : List ℕ) → list_all (what_known types) whats ≡ true → word_notes types n (Some word) ≡ [] → with_what types.rows whats word ≡ Ok out → list_all (what_known types) out ≡ true
  whats_known whats out word so notes e = sym (ap whats_fine e) ∙ what_fine whats so word notes
