-- Where the lists of a rule that was read name known types alone from which no other is derived, the words that they were read from have no note as lists.
use Rattle.std.proofs.Common.{◌≡◌, ℕ, suc, ◌+◌, Bool, true, false, cond, not, List, [], ◌∷◌, ◌++◌, length, Option, Some, None, Result, Ok, Err, refl, sym, ap, ◌∙◌, arith}
use Rattle.std.specs.Prelude.{◌==◌, ◌&&◌, ◌||◌, codes, nat_lt}
use Rattle.std.specs.List.{after_first, list_all, list_any, position_or_len}
use Rattle.std.specs.Char.{to_ascii_lowercase}
use Rattle.std.specs.Str.{str_to_ascii_lowercase}
use Rattle.dir_names.specs.Cut.{after_first_separator, parts_at}
use Rattle.dir_names.specs.Described.{Described}
use Rattle.dir_names.specs.Descriptions.{description_of}
use Rattle.dir_names.specs.Keys.{DnKeys}
use Rattle.dir_names.specs.Orders.{bytes_eq_decides}
use Rattle.dir_names.specs.Results.{and_then}
use Rattle.dir_names.specs.Table.{is_known}
use Rattle.dir_names.specs.declared.fault.NameFault.{NameFault}
use Rattle.dir_acl.specs.declared.access.Asked.{Asked}
use Rattle.dir_acl.specs.declared.access.Asked.TheVariants as asked
use Rattle.dir_acl.specs.declared.access.Control.{Control}
use Rattle.dir_acl.specs.declared.access.Control.TheVariants.{Stop}
use Rattle.dir_acl.specs.declared.access.Edit.{Edit}
use Rattle.dir_acl.specs.declared.access.Style.{Style}
use Rattle.dir_acl.specs.declared.access.Who.{Who}
use Rattle.dir_acl.specs.declared.config.whats.Form.TheVariants as form
use Rattle.dir_acl.specs.declared.fault.ConfigCause.{ConfigCause}
use Rattle.dir_acl.specs.declared.fault.ConfigCause.TheVariants as cause
use Rattle.dir_acl.specs.declared.fault.FilterFault.{FilterFault}
use Rattle.dir_acl.specs.declared.note.NoteCause.TheVariants.{Supertype, UnknownType}
use Rattle.dir_conf_text.specs.Keywords.{is_word}
use Rattle.dir_acl.specs.Config.AccessRules.{Place, before_to, before_what, in_what, before_who, in_who, after_access, after_control, access_rule_of, after_what, after_whos, after_word, at_end, by_control, by_or_control, first_who, is_by, next_who, rule_from, with_clause}
use Rattle.dir_acl.specs.Config.Names.{attr_by, form_of, name_at, style_of}
use Rattle.dir_acl.specs.Config.Permissions.{control_of, edit_of, no_edit}
use Rattle.dir_acl.specs.Config.Whats.{filter_by, is_of_form, item_at, items_after, items_at, with_attrs, with_filter, with_form, with_style, with_value, with_what}
use Rattle.dir_acl.specs.Config.Whos.{who_of}
use Rattle.dir_acl.specs.Filters.{Tree}
use Rattle.dir_acl.specs.Filters.Reading.{filter_of}
use Rattle.dir_acl.specs.Inside.ClearLists.{AreSilent, is_clear_list, list_notes, listed_notes}
use Rattle.dir_acl.specs.Notes.{item_notes, items_notes, named_notes, note_at, type_notes}
use Rattle.dir_acl.specs.Notes.Known.{asked_known, is_clear}
use Rattle.dir_acl.specs.Notes.Supertypes.{NotedTypes, has_those, type_named, without_options}
use Rattle.dir_acl.specs.Rules.{AccessRule, Restriction, to_names, to_filter, to_attrs}
use Rattle.dir_acl.proofs.Grammar.Sound.{first_true, second_true}
use Rattle.dir_acl.proofs.NoNotes.Lists.{both_words}
use Rattle.dir_acl.proofs.NoNotes.Types.{type_is_named}

-- ---- words without an equals sign have no value

abbrev is_equals : ℕ → Bool
is_equals b = b == 61

lower_equals : (b : ℕ) → is_equals (to_ascii_lowercase b) ≡ is_equals b
lower_equals b = grind (arith)

any_lower : (text : List ℕ) → list_any is_equals (str_to_ascii_lowercase text) ≡ list_any is_equals text
any_lower [] = refl
any_lower (b ∷ bs) = λ i. lower_equals b i || any_lower bs i

none_lacks : (text : List ℕ) → list_any is_equals text ≡ false → nat_lt (position_or_len is_equals text) (length text) ≡ false
none_lacks [] lacks = refl
none_lacks (b ∷ bs) lacks = by (none_lacks bs) (b == 61) refl lacks
  where
    by : (list_any is_equals bs ≡ false → nat_lt (position_or_len is_equals bs) (length bs) ≡ false) → (t : Bool) → (b == 61) ≡ t → (t || list_any is_equals bs) ≡ false
        → nat_lt (position_or_len is_equals (b ∷ bs)) (suc (length bs)) ≡ false
    by rest true w lacks = absurd (cc)
    by rest false w lacks =
        let longer : position_or_len is_equals (b ∷ bs) ≡ 1 + position_or_len is_equals bs = ap (λ t. cond (not t) (1 + position_or_len is_equals bs) 0) w in
        let so : nat_lt (position_or_len is_equals bs) (length bs) ≡ false = rest lacks in
        grind (arith)

no_value : (text : List ℕ) → list_any is_equals text ≡ false → after_first_separator 61 text ≡ None
no_value text lacks = ap (λ t. cond t (Some (after_first is_equals text)) None) (none_lacks text lacks)

-- a word of the letters of a keyword has none
keyword_alone : (word keyword : List ℕ) → is_word word keyword ≡ true → list_any is_equals keyword ≡ false → after_first_separator 61 word ≡ None
keyword_alone word keyword is lacks =
    no_value word
    (sym (any_lower word)
    ∙ ap (list_any is_equals) ((bytes_eq_decides (str_to_ascii_lowercase word) (str_to_ascii_lowercase keyword)).0 is)
    ∙ any_lower keyword
    ∙ lacks)

-- ---- all of a longer list

module _ {A : Type 0} (test : A → Bool) where
  all_before : (xs : List A) (x : A) → list_all test (xs ++ x ∷ []) ≡ true → list_all test xs ≡ true
  all_before [] x so = refl
  all_before (y ∷ ys) x so = λ i. first_true (test y) (list_all test (ys ++ x ∷ [])) so i && all_before ys x (second_true (test y) (list_all test (ys ++ x ∷ [])) so) i

  the_last : (xs : List A) (x : A) → list_all test (xs ++ x ∷ []) ≡ true → test x ≡ true
  the_last [] x so = first_true (test x) true so
  the_last (y ∷ ys) x so = the_last ys x (second_true (test y) (list_all test (ys ++ x ∷ [])) so)

module _ (types : NotedTypes) (n : ℕ) where
  -- ---- `attrs=LIST`

  silent_if : (text : List ℕ) (d : Described) → description_of types.rows text ≡ Ok d → is_clear types d.key ≡ true → type_notes types n d ≡ []
  silent_if text d e clear =
      by (is_known types.rows d.key) (types.has_subtypes (without_options d.key)) clear
      (ap (λ a. cond (has_those types a) (note_at n (Supertype d.spelling) ∷ []) []) (type_is_named types.rows text d e))
    where
      by : (k h : Bool) → (k && not h) ≡ true → cond (has_those types (type_named types.rows d.spelling)) (note_at n (Supertype d.spelling) ∷ []) [] ≡ cond h (note_at n (Supertype d.spelling) ∷ []) []
          → cond k (cond (has_those types (type_named types.rows d.spelling)) (note_at n (Supertype d.spelling) ∷ []) []) (note_at n (UnknownType d.spelling) ∷ []) ≡ []
      by false h clear same = absurd (cc)
      by true true clear same = absurd (cc)
      by true false clear same = same

  abbrev item_clear : Result Asked ConfigCause → Bool
  item_clear (Ok item) = asked_known types item
  item_clear (Err c) = true

  item_silent : (text : List ℕ) (item : Asked) → item_at types.rows text ≡ Ok item → asked_known types item ≡ true → item_notes types n text ≡ []
  item_silent text item e known = by (is_word text (codes "entry")) (is_word text (codes "children")) (description_of types.rows text) refl e
    where
      by : (a b : Bool) (d : Result Described NameFault) → description_of types.rows text ≡ d
          → cond a (Ok asked.Entry) (cond b (Ok asked.Children) (and_then (attr_by d) (λ attr. Ok (asked.Attribute attr)))) ≡ Ok item
          → cond (a || b) [] (named_notes types n d) ≡ []
      by true b d w e = refl
      by false true d w e = refl
      by false false (Err fault) w e = refl
      by false false (Ok d) w e = silent_if text d w (ap item_clear e ∙ known)

  abbrev items_clear : Result (List Asked) ConfigCause → Bool
  items_clear (Ok items) = list_all (asked_known types) items
  items_clear (Err c) = true

  -- those that were read first are among all
  items_before : (texts : List (List ℕ)) (items out : List Asked) → items_after types.rows items texts ≡ Ok out → list_all (asked_known types) out ≡ true → list_all (asked_known types) items ≡ true
  items_before [] items out e so = ap items_clear e ∙ so
  items_before (text ∷ texts) items out e so = by (λ item f. items_before texts (items ++ item ∷ []) out f so) (item_at types.rows text) e
    where
      by : ((item : Asked) → items_after types.rows (items ++ item ∷ []) texts ≡ Ok out → list_all (asked_known types) (items ++ item ∷ []) ≡ true)
          → (r : Result Asked ConfigCause) → and_then r (λ item. items_after types.rows (items ++ item ∷ []) texts) ≡ Ok out → list_all (asked_known types) items ≡ true
      by rest (Err c) e = absurd (cc)
      by rest (Ok item) e = all_before (asked_known types) items item (rest item e)

  items_silent : (texts : List (List ℕ)) (items out : List Asked) → items_after types.rows items texts ≡ Ok out → list_all (asked_known types) out ≡ true → items_notes types n texts ≡ []
  items_silent [] items out e so = refl
  items_silent (text ∷ texts) items out e so = by (λ item f. items_silent texts (items ++ item ∷ []) out f so) (item_at types.rows text) refl e
    where
      by : ((item : Asked) → items_after types.rows (items ++ item ∷ []) texts ≡ Ok out → items_notes types n texts ≡ [])
          → (r : Result Asked ConfigCause) → item_at types.rows text ≡ r → and_then r (λ item. items_after types.rows (items ++ item ∷ []) texts) ≡ Ok out → item_notes types n text ++ items_notes types n texts ≡ []
      by rest (Err c) w e = absurd (cc)
      by rest (Ok item) w e =
          (λ i. item_silent text item w (the_last (asked_known types) items item (items_before texts (items ++ item ∷ []) out e so)) i ++ rest item e i)

  -- ---- a word of a <what>

  -- the words of a <what> so far are clear, and this one has no note as a list, if all with it are
  abbrev Grows : List Restriction → List ℕ → Result (List Restriction) ConfigCause → Type 0
  Grows whats word (Err c) = Unit {0}
  Grows whats word (Ok more) = list_all (is_clear_list types) more ≡ true → (list_all (is_clear_list types) whats ≡ true) × (listed_notes types n (Some word) ≡ [])

  abbrev GrowsBy : List Restriction → List ℕ → Option (List ℕ) → Result (List Restriction) ConfigCause → Type 0
  GrowsBy whats form value (Err c) = Unit {0}
  GrowsBy whats form value (Ok more) = list_all (is_clear_list types) more ≡ true → (list_all (is_clear_list types) whats ≡ true) × (list_notes types n form value ≡ [])

  module _ (whats : List Restriction) (head text : List ℕ) where
    no_list : is_word head (codes "attrs") ≡ false → list_notes types n head (Some text) ≡ []
    no_list isnt = ap (λ t. cond t (items_notes types n (parts_at 44 text)) []) isnt

    filter_grows : is_word head (codes "attrs") ≡ false → GrowsBy whats head (Some text) (with_filter types.rows whats text)
    filter_grows isnt = by (list_any (is_of_form form.Filter) whats) (filter_of types.rows text)
      where
        by : (b : Bool) (r : Result Tree FilterFault) → GrowsBy whats head (Some text) (cond b (Err cause.BadDirective) (and_then (filter_by r) (λ filter. Ok (whats ++ to_filter filter ∷ []))))
        by true r = tt
        by false (Err fault) = tt
        by false (Ok t) = λ so. (all_before (is_clear_list types) whats (to_filter t) so, no_list isnt)

    attrs_grows : is_word head (codes "attrs") ≡ true → GrowsBy whats head (Some text) (with_attrs types.rows whats text)
    attrs_grows is = by (list_any (is_of_form form.Attrs) whats) (items_at types.rows text) refl
      where
        by : (b : Bool) (r : Result (List Asked) ConfigCause) → items_at types.rows text ≡ r → GrowsBy whats head (Some text) (cond b (Err cause.BadDirective) (and_then r (λ items. Ok (whats ++ to_attrs items ∷ []))))
        by true r w = tt
        by false (Err c) w = tt
        by false (Ok items) w =
            λ so. (
              all_before (is_clear_list types) whats (to_attrs items) so,
              ap (λ t. cond t (items_notes types n (parts_at 44 text)) []) is ∙ items_silent (parts_at 44 text) [] items w (the_last (is_clear_list types) whats (to_attrs items) so),
            )

    style_grows : is_word head (codes "attrs") ≡ false → (style : Option Style) → GrowsBy whats head (Some text) (with_style types.rows whats style text)
    style_grows isnt None = tt
    style_grows isnt (Some style) = by (list_any (is_of_form form.Dn) whats) (name_at types.rows text)
      where
        by : (b : Bool) (r : Result DnKeys ConfigCause) → GrowsBy whats head (Some text) (cond b (Err cause.BadDirective) (and_then r (λ name. Ok (whats ++ to_names style name ∷ []))))
        by true r = tt
        by false (Err c) = tt
        by false (Ok name) = λ so. (all_before (is_clear_list types) whats (to_names style name) so, no_list isnt)

    form_grows : GrowsBy whats head (Some text) (with_form types.rows whats head text)
    form_grows = by (is_word head (codes "filter")) (is_word head (codes "attrs")) refl refl
      where
        isnt : (b : Bool) → is_word head (codes "filter") ≡ true → is_word head (codes "attrs") ≡ b → is_word head (codes "attrs") ≡ false
        isnt false v w = w
        isnt true v w = let both = both_words head (codes "filter") (codes "attrs") v w in absurd (cc)

        by : (a b : Bool) → is_word head (codes "filter") ≡ a → is_word head (codes "attrs") ≡ b
            → GrowsBy whats head (Some text) (cond a (with_filter types.rows whats text) (cond b (with_attrs types.rows whats text) (with_style types.rows whats (style_of head) text)))
        by true b v w = filter_grows (isnt b v w)
        by false true v w = attrs_grows w
        by false false v w = style_grows w (style_of head)

  what_grows : (whats : List Restriction) (word : List ℕ) → Grows whats word (with_what types.rows whats word)
  what_grows whats word = by (is_word word (codes "*")) refl
    where
      valued : (value : Option (List ℕ)) → GrowsBy whats (form_of word) value (with_value types.rows whats (form_of word) value)
      valued None = tt
      valued (Some text) = form_grows whats (form_of word) text

      told : (r : Result (List Restriction) ConfigCause) → GrowsBy whats (form_of word) (after_first_separator 61 word) r → Grows whats word r
      told (Err c) grows = tt
      told (Ok more) grows = grows

      by : (b : Bool) → is_word word (codes "*") ≡ b → Grows whats word (cond b (Ok whats) (with_value types.rows whats (form_of word) (after_first_separator 61 word)))
      by true w = λ so. (so, ap (list_notes types n (form_of word)) (keyword_alone word (codes "*") w refl))
      by false w = told (with_value types.rows whats (form_of word) (after_first_separator 61 word)) (valued (after_first_separator 61 word))

  -- ---- the words of a rule

  abbrev what_of : Place → List Restriction
  what_of before_to = []
  what_of before_what = []
  what_of (in_what whats) = whats
  what_of (before_who rule) = rule.what
  what_of (in_who rule whos) = rule.what
  what_of (after_access rule whos edit) = rule.what
  what_of (after_control rule) = rule.what

  -- what was read before is clear, if all that was read is
  abbrev Keeps : List Restriction → Result Place ConfigCause → Type 0
  Keeps whats (Err c) = Unit {0}
  Keeps whats (Ok next) = list_all (is_clear_list types) (what_of next) ≡ true → list_all (is_clear_list types) whats ≡ true

  control_keeps : (rule : AccessRule) (whos : List Who) (edit : Edit) (word : List ℕ) → Keeps rule.what (by_or_control rule whos edit word)
  control_keeps rule whos edit word = by (is_by word) (control_of word)
    where
      by : (b : Bool) (control : Option Control) → Keeps rule.what (cond b (Ok (before_who (with_clause rule whos edit Stop))) (by_control rule whos edit control))
      by true control = λ so. so
      by false None = tt
      by false (Some control) = λ so. so

  what_keeps : (whats : List Restriction) (word : List ℕ) → Keeps whats (after_what types.rows whats word)
  what_keeps whats word = by (with_what types.rows whats word) (what_grows whats word)
    where
      by : (r : Result (List Restriction) ConfigCause) → Grows whats word r → Keeps whats (and_then r (λ more. Ok (in_what more)))
      by (Err c) grows = tt
      by (Ok more) grows = λ so. (grows so).0

  word_keeps : (place : Place) (word : List ℕ) → Keeps (what_of place) (after_word types.rows place word)
  word_keeps before_to word = by (is_word word (codes "to"))
    where
      by : (b : Bool) → Keeps [] (cond b (Ok before_what) (Err cause.BadDirective))
      by true = λ so. refl
      by false = tt
  word_keeps before_what word = what_keeps [] word
  word_keeps (in_what whats) word = by (is_by word)
    where
      by : (b : Bool) → Keeps whats (cond b (Ok (before_who (record { what = whats; clauses = [] }))) (after_what types.rows whats word))
      by true = λ so. so
      by false = what_keeps whats word
  word_keeps (before_who rule) word = by (who_of types.rows word)
    where
      by : (r : Result (Option Who) ConfigCause) → Keeps rule.what (and_then r (λ who. first_who rule who))
      by (Err c) = tt
      by (Ok None) = tt
      by (Ok (Some who)) = λ so. so
  word_keeps (in_who rule whos) word = by (who_of types.rows word)
    where
      after : (edit : Option Edit) → Keeps rule.what (after_whos rule whos edit word)
      after None = control_keeps rule whos no_edit word
      after (Some edit) = λ so. so

      by : (r : Result (Option Who) ConfigCause) → Keeps rule.what (and_then r (λ who. next_who rule whos word who))
      by (Err c) = tt
      by (Ok None) = after (edit_of word)
      by (Ok (Some who)) = λ so. so
  word_keeps (after_access rule whos edit) word = control_keeps rule whos edit word
  word_keeps (after_control rule) word = by (is_by word)
    where
      by : (b : Bool) → Keeps rule.what (cond b (Ok (before_who rule)) (Err cause.Unsupported))
      by true = λ so. so
      by false = tt

  abbrev rule_clear : Result AccessRule ConfigCause → Bool
  rule_clear (Ok rule) = list_all (is_clear_list types) rule.what
  rule_clear (Err c) = true

  end_keeps : (place : Place) (rule : AccessRule) → at_end place ≡ Ok rule → list_all (is_clear_list types) rule.what ≡ true → list_all (is_clear_list types) (what_of place) ≡ true
  end_keeps before_to rule e so = refl
  end_keeps before_what rule e so = refl
  end_keeps (in_what whats) rule e so = absurd (cc)
  end_keeps (before_who r) rule e so = absurd (cc)
  end_keeps (in_who r whos) rule e so = ap rule_clear e ∙ so
  end_keeps (after_access r whos edit) rule e so = ap rule_clear e ∙ so
  end_keeps (after_control r) rule e so = ap rule_clear e ∙ so

  words_keep : (place : Place) (words : List (Option (List ℕ))) (rule : AccessRule) → rule_from types.rows place words ≡ Ok rule → list_all (is_clear_list types) rule.what ≡ true
      → list_all (is_clear_list types) (what_of place) ≡ true
  words_keep place [] rule e so = end_keeps place rule e so
  words_keep place (None ∷ words) rule e so = absurd (cc)
  words_keep place (Some word ∷ words) rule e so = by (λ next f. words_keep next words rule f so) (after_word types.rows place word) (word_keeps place word) e
    where
      by : ((next : Place) → rule_from types.rows next words ≡ Ok rule → list_all (is_clear_list types) (what_of next) ≡ true)
          → (r : Result Place ConfigCause) → Keeps (what_of place) r → and_then r (λ next. rule_from types.rows next words) ≡ Ok rule → list_all (is_clear_list types) (what_of place) ≡ true
      by rest (Err c) keeps e = absurd (cc)
      by rest (Ok next) keeps e = keeps (rest next e)

  -- ---- the words of a <what>

  module _ (rule : AccessRule) (so : list_all (is_clear_list types) rule.what ≡ true) where
    -- a word, where those after it are silent
    what_silent : (words : List (Option (List ℕ))) → ((whats : List Restriction) → rule_from types.rows (in_what whats) words ≡ Ok rule → AreSilent types n words)
        → (whats : List Restriction) (word : List ℕ) → and_then (after_what types.rows whats word) (λ next. rule_from types.rows next words) ≡ Ok rule → (listed_notes types n (Some word) ≡ []) × AreSilent types n words
    what_silent words rest whats word e = by (with_what types.rows whats word) (what_grows whats word) e
      where
        by : (r : Result (List Restriction) ConfigCause) → Grows whats word r → and_then (and_then r (λ more. Ok (in_what more))) (λ next. rule_from types.rows next words) ≡ Ok rule
            → (listed_notes types n (Some word) ≡ []) × AreSilent types n words
        by (Err c) grows e = absurd (cc)
        by (Ok more) grows e = ((grows (words_keep (in_what more) words rule e so)).1, rest more e)

    whats_silent : (words : List (Option (List ℕ))) (whats : List Restriction) → rule_from types.rows (in_what whats) words ≡ Ok rule → AreSilent types n words
    whats_silent [] whats e = tt
    whats_silent (None ∷ words) whats e = λ go. absurd (cc)
    whats_silent (Some word ∷ words) whats e = by (whats_silent words) (is_by word) e
      where
        by : ((whats : List Restriction) → rule_from types.rows (in_what whats) words ≡ Ok rule → AreSilent types n words) → (b : Bool)
            → and_then (cond b (Ok (before_who (record { what = whats; clauses = [] }))) (after_what types.rows whats word)) (λ next. rule_from types.rows next words) ≡ Ok rule
            → not b ≡ true → (listed_notes types n (Some word) ≡ []) × AreSilent types n words
        by rest true e go = absurd (cc)
        by rest false e go = what_silent words rest whats word e

    first_silent : (words : List (Option (List ℕ))) → rule_from types.rows before_what words ≡ Ok rule → AreSilent types n words
    first_silent [] e = tt
    first_silent (None ∷ words) e = λ go. absurd (cc)
    first_silent (Some word ∷ words) e = λ go. what_silent words (whats_silent words) [] word e

    pub words_silent : (words : List (Option (List ℕ))) → access_rule_of types.rows words ≡ Ok rule → AreSilent types n words
    words_silent [] e = tt
    words_silent (None ∷ words) e = λ go. absurd (cc)
    words_silent (Some word ∷ words) e = λ go. by (is_word word (codes "to")) refl e
      where
        by : (b : Bool) → is_word word (codes "to") ≡ b → and_then (cond b (Ok before_what) (Err cause.BadDirective)) (λ next. rule_from types.rows next words) ≡ Ok rule
            → (listed_notes types n (Some word) ≡ []) × AreSilent types n words
        by true w e = (ap (list_notes types n (form_of word)) (keyword_alone word (codes "to") w refl), first_silent words e)
        by false w e = absurd (cc)
