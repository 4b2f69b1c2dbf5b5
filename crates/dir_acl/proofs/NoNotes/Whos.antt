-- A <who> that is read names known types alone, since of others nobody knows that their values are names. Where there is no note, none is derived from that of `dnattr=`.
use Rattle.std.proofs.Common.{◌≡◌, ℕ, Bool, true, false, cond, List, [], ◌∷◌, Option, Some, None, Result, Ok, Err, refl, sym, ap, ◌∙◌}
use Rattle.std.specs.Prelude.{codes, is_some}
use Rattle.dir_names.specs.Attr.{Attr}
use Rattle.dir_names.specs.Cut.{after_first_separator, parts_at}
use Rattle.dir_names.specs.Described.{Described}
use Rattle.dir_names.specs.Descriptions.{description_of}
use Rattle.dir_names.specs.Keys.{DnKeys}
use Rattle.dir_names.specs.Results.{and_then}
use Rattle.dir_names.specs.Table.{is_known, row_of, rule_in}
use Rattle.dir_names.specs.declared.fault.NameFault.{NameFault}
use Rattle.dir_names.specs.declared.schema.Rule.{Rule}
use Rattle.dir_names.specs.declared.schema.Rule.TheVariants as rule
use Rattle.dir_names.specs.declared.schema.TypeRow.{TypeRow}
use Rattle.dir_names.specs.declared.value.ValueKey.{ValueKey}
use Rattle.dir_acl.specs.declared.access.Style.{Style}
use Rattle.dir_acl.specs.declared.access.Who.{Who}
use Rattle.dir_acl.specs.declared.access.Who.TheVariants as who
use Rattle.dir_acl.specs.declared.fault.ConfigCause.{ConfigCause}
use Rattle.dir_conf_text.specs.Keywords.{is_word}
use Rattle.dir_acl.specs.Config.Names.{attr_at, attr_by, by_rule, class_key_at, form_of, if_of_names, name_at, names_attr_at, style_of}
use Rattle.dir_acl.specs.Config.Permissions.{edit_of}
use Rattle.dir_acl.specs.Config.Whos.{group_at, group_of, group_of_parts, group_with, slash, who_of, who_of_style, who_with_value, without_exact}
use Rattle.dir_acl.specs.Notes.{dnattr_notes, edit_notes, filter_notes, form_notes, items_notes, named_notes, word_notes}
use Rattle.dir_acl.specs.Notes.Known.{is_clear, who_known}
use Rattle.dir_acl.specs.Notes.Supertypes.{NotedTypes}
use Rattle.dir_acl.proofs.NoNotes.Lists.{both_words, right_empty}
use Rattle.dir_acl.proofs.NoNotes.Types.{clear_if}

module _ (types : NotedTypes) (n : ℕ) where
  -- ---- attributes whose values are names

  abbrev attr_fine : Bool → Result Attr ConfigCause → Bool
  attr_fine known (Ok attr) = known
  attr_fine known (Err c) = true

  names_fine : (attr : Attr) (row : Option TypeRow) → attr_fine (is_some row) (by_rule (rule_in row) attr) ≡ true
  names_fine attr None = refl
  names_fine attr (Some row) = by row.rule
    where
      by : (r : Rule) → attr_fine true (by_rule r attr) ≡ true
      by rule.Name = refl
      by rule.Octet = refl
      by rule.CaseIgnore = refl
      by rule.Ia5CaseIgnore = refl
      by rule.Ia5CaseExact = refl
      by rule.Telephone = refl
      by rule.Integer = refl
      by rule.ObjectId = refl

  -- such an attribute stays what it was
  same_attr : (r : Rule) (one attr : Attr) → by_rule r one ≡ Ok attr → one ≡ attr
  same_attr rule.Name one attr e = cc
  same_attr rule.Octet one attr e = absurd (cc)
  same_attr rule.CaseIgnore one attr e = absurd (cc)
  same_attr rule.Ia5CaseIgnore one attr e = absurd (cc)
  same_attr rule.Ia5CaseExact one attr e = absurd (cc)
  same_attr rule.Telephone one attr e = absurd (cc)
  same_attr rule.Integer one attr e = absurd (cc)
  same_attr rule.ObjectId one attr e = absurd (cc)

  names_known : (text : List ℕ) (attr : Attr) → names_attr_at types.rows text ≡ Ok attr → is_known types.rows attr ≡ true
  names_known text attr e = by (attr_at types.rows text) e
    where
      by : (r : Result Attr ConfigCause) → and_then r (λ a. if_of_names types.rows a) ≡ Ok attr → is_known types.rows attr ≡ true
      by (Err c) e = absurd (cc)
      by (Ok one) e =
          ap (is_known types.rows) (sym (same_attr (rule_in (row_of types.rows one)) one attr e))
          ∙ sym (ap (attr_fine (is_known types.rows one)) e)
          ∙ names_fine one (row_of types.rows one)

  -- ---- a <who>

  abbrev pub maybe_known : Option Who → Bool
  maybe_known None = true
  maybe_known (Some w) = who_known types w

  abbrev pub who_fine : Result (Option Who) ConfigCause → Bool
  who_fine (Ok w) = maybe_known w
  who_fine (Err c) = true

  -- the attribute is that of the description
  names_clear : (text : List ℕ) (attr : Attr) → names_attr_at types.rows text ≡ Ok attr → named_notes types n (description_of types.rows text) ≡ [] → is_clear types attr ≡ true
  names_clear text attr e notes = by (description_of types.rows text) refl e notes
    where
      by : (r : Result Described NameFault) → description_of types.rows text ≡ r → and_then (attr_by r) (λ a. if_of_names types.rows a) ≡ Ok attr → named_notes types n r ≡ [] → is_clear types attr ≡ true
      by (Err fault) w e notes = absurd (cc)
      by (Ok d) w e notes = ap (is_clear types) (sym (same_attr (rule_in (row_of types.rows d.key)) d.key attr e)) ∙ clear_if types n text d w notes

  dnattr_fine : (text : List ℕ) → named_notes types n (description_of types.rows text) ≡ [] → who_fine (and_then (names_attr_at types.rows text) (λ attr. Ok (Some (who.DnAttr attr)))) ≡ true
  dnattr_fine text notes = by (names_attr_at types.rows text) refl
    where
      by : (r : Result Attr ConfigCause) → names_attr_at types.rows text ≡ r → who_fine (and_then r (λ attr. Ok (Some (who.DnAttr attr)))) ≡ true
      by (Err c) w = refl
      by (Ok attr) w = names_clear text attr w notes

  group_fine : (class member text : List ℕ) → who_fine (group_at types.rows class member text) ≡ true
  group_fine class member text = by (attr_at types.rows (codes "objectClass"))
    where
      named : (class_attr : Attr) (class_key : ValueKey) (attr : Attr) → is_known types.rows attr ≡ true → (r : Result DnKeys ConfigCause)
          → who_fine (and_then r (λ name. Ok (Some (who.Group name class_attr class_key attr)))) ≡ true
      named class_attr class_key attr known (Err c) = refl
      named class_attr class_key attr known (Ok name) = known

      of_member : (class_attr : Attr) (class_key : ValueKey) (r : Result Attr ConfigCause) → names_attr_at types.rows member ≡ r
          → who_fine (and_then r (λ attr. and_then (name_at types.rows text) (λ name. Ok (Some (who.Group name class_attr class_key attr))))) ≡ true
      of_member class_attr class_key (Err c) w = refl
      of_member class_attr class_key (Ok attr) w = named class_attr class_key attr (names_known member attr w) (name_at types.rows text)

      of_class : (class_attr : Attr) (r : Result ValueKey ConfigCause)
          → who_fine (and_then r (λ class_key. and_then (names_attr_at types.rows member) (λ attr. and_then (name_at types.rows text) (λ name. Ok (Some (who.Group name class_attr class_key attr)))))) ≡ true
      of_class class_attr (Err c) = refl
      of_class class_attr (Ok class_key) = of_member class_attr class_key (names_attr_at types.rows member) refl

      by : (r : Result Attr ConfigCause)
          → who_fine (and_then r (λ class_attr. and_then (class_key_at types.rows class_attr class) (λ class_key. and_then (names_attr_at types.rows member) (λ attr. and_then (name_at types.rows text) (λ name. Ok (Some (who.Group name class_attr class_key attr))))))) ≡ true
      by (Err c) = refl
      by (Ok class_attr) = of_class class_attr (class_key_at types.rows class_attr class)

  with_fine : (parts : List (List ℕ)) (text : List ℕ) → who_fine (group_with types.rows parts text) ≡ true
  with_fine [] text = group_fine (codes "groupOfNames") (codes "member") text
  with_fine (class ∷ []) text = group_fine class (codes "member") text
  with_fine (class ∷ member ∷ []) text = group_fine class member text
  with_fine (class ∷ member ∷ more ∷ parts) text = refl

  parts_fine : (parts : List (List ℕ)) (text : List ℕ) → who_fine (group_of_parts types.rows parts text) ≡ true
  parts_fine [] text = refl
  parts_fine (first ∷ parts) text = by (is_word first (codes "group"))
    where
      by : (b : Bool) → who_fine (cond b (group_with types.rows parts text) (Ok None)) ≡ true
      by true = with_fine parts text
      by false = refl

  -- a form is not another one
  other_form : (form one another : List ℕ) → is_word form one ≡ true → is_word one another ≡ false → is_word form another ≡ false
  other_form form one another is isnt = by (is_word form another) refl
    where
      by : (b : Bool) → is_word form another ≡ b → b ≡ false
      by false w = refl
      by true w = let both = both_words form one another is w in absurd (cc)

  -- `dnattr` is neither `filter` nor `attrs`
  named_by : (form text : List ℕ) → is_word form (codes "dnattr") ≡ true → form_notes types n form (Some text) ≡ [] → named_notes types n (description_of types.rows text) ≡ []
  named_by form text is notes =
      ap (λ b. cond b (named_notes types n (description_of types.rows text)) []) (sym is)
      ∙ ap (λ b. cond b (items_notes types n (parts_at 44 text)) (dnattr_notes types n form text)) (sym (other_form form (codes "dnattr") (codes "attrs") is refl))
      ∙ ap (λ b. cond b (filter_notes types n text) (cond (is_word form (codes "attrs")) (items_notes types n (parts_at 44 text)) (dnattr_notes types n form text))) (sym (other_form form (codes "dnattr") (codes "filter") is refl))
      ∙ notes

  style_fine : (style : Option Style) (form text : List ℕ) → form_notes types n form (Some text) ≡ [] → who_fine (who_of_style types.rows style form text) ≡ true
  style_fine (Some style) form text notes = by (name_at types.rows text)
    where
      by : (r : Result DnKeys ConfigCause) → who_fine (and_then r (λ name. Ok (Some (who.Dn style name)))) ≡ true
      by (Err c) = refl
      by (Ok name) = refl
  style_fine None form text notes = by (is_word form (codes "dnattr")) refl
    where
      by : (b : Bool) → is_word form (codes "dnattr") ≡ b → who_fine (cond b (and_then (names_attr_at types.rows text) (λ attr. Ok (Some (who.DnAttr attr)))) (group_of types.rows form text)) ≡ true
      by true w = dnattr_fine text (named_by form text w notes)
      by false w = parts_fine (parts_at slash (without_exact form)) text

  pub read_fine : (word : List ℕ) → word_notes types n (Some word) ≡ [] → who_fine (who_of types.rows word) ≡ true
  read_fine word notes = by (is_word word (codes "*")) (is_word word (codes "anonymous")) (is_word word (codes "users")) (is_word word (codes "self")) (after_first_separator 61 word)
      (right_empty (edit_notes n (edit_of word)) (form_notes types n (form_of word) (after_first_separator 61 word)) notes)
    where
      by : (a b c d : Bool) (value : Option (List ℕ)) → form_notes types n (form_of word) value ≡ []
          → who_fine (cond a (Ok (Some who.Anyone)) (cond b (Ok (Some who.Anonymous)) (cond c (Ok (Some who.Users)) (cond d (Ok (Some who.Myself)) (who_with_value types.rows (form_of word) value))))) ≡ true
      by true b c d value notes = refl
      by false true c d value notes = refl
      by false false true d value notes = refl
      by false false false true value notes = refl
      by false false false false None notes = refl
      by false false false false (Some text) notes = style_fine (style_of (form_of word)) (form_of word) text notes
