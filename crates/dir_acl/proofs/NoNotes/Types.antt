-- A description without a note is of a known type from which no other is derived.
use Rattle.std.proofs.Common.{◌≡◌, ℕ, suc, ◌+◌, Bool, true, false, cond, not, List, [], ◌∷◌, length, take, Option, Some, Ok, Err, refl, sym, ap, ◌∙◌, subst, arith}
use Rattle.std.specs.Prelude.{◌==◌, ◌&&◌, ◌||◌, map, nat_le}
use Rattle.std.specs.List.{before_first, list_all, onto_first, position_or_len}
use Rattle.std.specs.Str.{str_to_ascii_lowercase}
use Rattle.dir_names.specs.Attr.{Attr}
use Rattle.dir_names.specs.Cut.{after_first_separator, parts_at}
use Rattle.dir_names.specs.Described.{Described}
use Rattle.dir_names.specs.Descriptions.{description_from, description_of, is_descr, is_numericoid, is_option, is_reserved, is_type}
use Rattle.dir_names.specs.Inside.Left.{parts_left}
use Rattle.dir_names.specs.Orders.{bytes_cmp}
use Rattle.dir_names.specs.Sorted.{set_of}
use Rattle.dir_names.specs.Table.{is_known, type_key_of}
use Rattle.dir_names.specs.declared.fault.NameFault.TheVariants.{BadDescription, ReservedName}
use Rattle.dir_names.specs.declared.schema.TypeRow.{TypeRow}
use Rattle.dir_names.proofs.CutLemmas.{parts-cut}
use Rattle.dir_acl.specs.declared.note.NoteCause.TheVariants.{Supertype, UnknownType}
use Rattle.dir_acl.specs.Notes.{note_at, type_notes}
use Rattle.dir_acl.specs.Notes.Known.{is_clear}
use Rattle.dir_acl.specs.Notes.Supertypes.{NotedTypes, attr_read, has_those, type_named, without_options}
use Rattle.dir_acl.proofs.Grammar.Sound.{second_true}

-- ---- the first part of a text has no more than one part itself

abbrev semicolons : ℕ → Bool
semicolons b = b == 59

one_part : (text : List ℕ) → parts_at 59 (before_first semicolons text) ≡ before_first semicolons text ∷ []
one_part [] = refl
one_part (x ∷ xs) = by (one_part xs) (x == 59) refl
  where
    by : parts_at 59 (before_first semicolons xs) ≡ before_first semicolons xs ∷ [] → (t : Bool) → (x == 59) ≡ t
        → parts_at 59 (take (cond (not t) (1 + position_or_len semicolons xs) 0) (x ∷ xs)) ≡ take (cond (not t) (1 + position_or_len semicolons xs) 0) (x ∷ xs) ∷ []
    by rest true w = refl
    by rest false w =
        let longer : 1 + position_or_len semicolons xs ≡ suc (position_or_len semicolons xs) = omega arith in
        ap (λ k. parts_at 59 (take k (x ∷ xs))) longer
        ∙ ap (λ t. cond t ([] ∷ parts_at 59 (before_first semicolons xs)) (onto_first x (parts_at 59 (before_first semicolons xs)))) w
        ∙ ap (onto_first x) rest
        ∙ ap (λ k. take k (x ∷ xs) ∷ []) (sym longer)

module _ (rows : List TypeRow) where
  -- ---- the type of a description is what it begins with

  abbrev pub attr_of_type : List ℕ → Attr
  attr_of_type name = record { attr_type = type_key_of rows name; options = [] }

  alone : (name : List ℕ) → parts_at 59 name ≡ name ∷ [] → nat_le (length name) 512 ≡ true → is_type name ≡ true → is_reserved name ≡ false → attr_read (description_of rows name) ≡ Some (attr_of_type name)
  alone name whole short is free =
      ap (λ b. attr_read (cond b (description_from rows name (parts_at 59 name)) (Err BadDescription))) short
      ∙ ap (λ parts. attr_read (description_from rows name parts)) whole
      ∙ ap (λ b. attr_read (cond (b && true) (cond (is_reserved name) (Err ReservedName) (Ok (record { spelling = name; key = attr_of_type name }))) (Err BadDescription))) is
      ∙ ap (λ b. attr_read (cond b (Err ReservedName) (Ok (record { spelling = name; key = attr_of_type name })))) free

  pub type_is_named : (text : List ℕ) (d : Described) → description_of rows text ≡ Ok d → type_named rows d.spelling ≡ Some (without_options d.key)
  type_is_named text d e = by (nat_le (length text) 512) (parts_at 59 text) (parts-cut 59 text) e
    where
      first : List ℕ
      first = before_first semicolons text

      options : List (List ℕ)
      options = parts_left 59 (after_first_separator 59 text)

      read : Described
      read = record { spelling = text; key = record { attr_type = type_key_of rows first; options = set_of bytes_cmp (map str_to_ascii_lowercase options) } }

      tested : (t o r : Bool) → is_type first ≡ t → list_all is_option options ≡ o → is_reserved first ≡ r
          → cond (t && o) (cond r (Err ReservedName) (Ok read)) (Err BadDescription) ≡ Ok d → type_named rows d.spelling ≡ Some (without_options d.key)
      tested false o r v w x e = absurd (cc)
      tested true false r v w x e = absurd (cc)
      tested true true true v w x e = absurd (cc)
      tested true true false v w x e =
          let same : read ≡ d = cc in
          let short : nat_le (length first) 512 ≡ true = second_true (is_descr first || is_numericoid first) (nat_le (length first) 512) v in
          subst (λ (d : Described). type_named rows d.spelling ≡ Some (without_options d.key)) same (alone first (one_part text) short v x)

      by : (b : Bool) (parts : List (List ℕ)) → parts ≡ first ∷ parts_left 59 (after_first_separator 59 text) → cond b (description_from rows text parts) (Err BadDescription) ≡ Ok d
          → type_named rows d.spelling ≡ Some (without_options d.key)
      by false parts w e = absurd (cc)
      by true parts w e =
          tested (is_type first) (list_all is_option options) (is_reserved first) refl refl refl (ap (description_from rows text) (sym w) ∙ e)

-- ---- a description without a note

pub clear_if : (types : NotedTypes) (n : ℕ) (text : List ℕ) (d : Described) → description_of types.rows text ≡ Ok d → type_notes types n d ≡ [] → is_clear types d.key ≡ true
clear_if types n text d e notes = by (is_known types.rows d.key) (type_named types.rows d.spelling) (type_is_named types.rows text d e) notes
  where
    by : (k : Bool) (attr : Option Attr) → attr ≡ Some (without_options d.key)
        → cond k (cond (has_those types attr) (note_at n (Supertype d.spelling) ∷ []) []) (note_at n (UnknownType d.spelling) ∷ []) ≡ [] → (k && not (types.has_subtypes (without_options d.key))) ≡ true
    by false attr w notes = absurd (cc)
    by true attr w notes = last (types.has_subtypes (without_options d.key)) (ap (λ a. cond (has_those types a) (note_at n (Supertype d.spelling) ∷ []) []) (sym w) ∙ notes)
      where
        last : (h : Bool) → cond h (note_at n (Supertype d.spelling) ∷ []) [] ≡ [] → not h ≡ true
        last true notes = absurd (cc)
        last false notes = refl
