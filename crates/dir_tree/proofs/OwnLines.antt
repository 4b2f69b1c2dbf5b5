-- The lines that an entry's own RDN stands for: each type is a description, and each value has the key of a text.
use Rattle.std.proofs.Common.{◌≡◌, ℕ, Bool, true, false, cond, not, ◌&&◌, ◌==◌, List, [], ◌∷◌, ◌||◌, Option, Some, None, is_some, option_map, arith, Result, Ok, Err, refl, sym, ap, ◌∙◌, true≢false}
use Rattle.std.specs.List.{list_all, onto_first}
use Rattle.std.proofs.lemmas.Bool.Decides.{nat_tests}
use Rattle.dir_names.specs.declared.fault.NameFault.{NameFault}
use Rattle.dir_names.specs.declared.fault.NameFault.TheVariants.{BadDescription, ReservedName, BadValue}
use Rattle.dir_names.specs.declared.schema.Rule.{Rule}
use Rattle.dir_names.specs.declared.schema.Rule.TheVariants.{Octet, CaseIgnore, Ia5CaseIgnore, Ia5CaseExact, Telephone, Integer, Name, ObjectId}
use Rattle.dir_names.specs.declared.schema.TypeRow.{TypeRow}
use Rattle.dir_names.specs.declared.value.ValueKey.TheVariants as key
use Rattle.dir_names.specs.Attr.{Attr}
use Rattle.dir_names.specs.Cut.{parts_at}
use Rattle.dir_names.specs.Descriptions.{description_from, description_of, is_descr, is_numericoid, is_reserved, is_type}
use Rattle.dir_names.specs.Names.{SpelledPair, SpelledRdn}
use Rattle.std.specs.Option.{option_and_then}
use Rattle.std.specs.Result.{result_ok}
use Rattle.dir_names.specs.NameKeys.{as_text, attr_of, pair_key, rdn_key, set_if_distinct, value_key_by, value_key_of}
use Rattle.dir_names.specs.Results.{option_collect, option_cons}
use Rattle.dir_names.specs.Names.Sound.{is_sound_pair}
use Rattle.dir_names.specs.Table.{rule_of}
use Rattle.dir_names.specs.ValueKeys.{text_key_of}
use Rattle.dir_names.proofs.ByteFacts.{is_type_char}
use Rattle.dir_names.proofs.ReadNames.{type_chars}
use Rattle.dir_tree.specs.declared.lines.KeyedLine.{KeyedLine}
use Rattle.dir_tree.specs.Content.{StoredAttributes}
use Rattle.dir_tree.specs.NewEntry.{pair_line, rdn_lines, with_missing_line, with_missing_of}

pub and_left : (a b : Bool) → (a && b) ≡ true → a ≡ true
and_left true b e = refl
and_left false b e = e

pub and_right : (a b : Bool) → (a && b) ≡ true → b ≡ true
and_right true b e = e
and_right false b e = absurd (true≢false (sym e))

not_true : (a : Bool) → not a ≡ true → a ≡ false
not_true true e = sym e
not_true false e = refl

-- no character of a type separates options
not_separator : (b : ℕ) → is_type_char b ≡ true → (b == 59) ≡ false
not_separator b e = grind (arith, nat_tests)

-- a type is one part
one_part : (bs : List ℕ) → list_all is_type_char bs ≡ true → parts_at 59 bs ≡ bs ∷ []
one_part [] e = refl
one_part (b ∷ bs) e =
    ap (λ t. cond t ([] ∷ parts_at 59 bs) (onto_first b (parts_at 59 bs))) (not_separator b (and_left _ _ e))
    ∙ ap (onto_first b) (one_part bs (and_right (is_type_char b) _ e))

pub type_described : (rows : List TypeRow) (attr_type : List ℕ) → is_type attr_type ≡ true → is_reserved attr_type ≡ false → description_of rows attr_type ≡ Ok (record { spelling = attr_type; key = attr_of rows attr_type })
type_described rows attr_type named free =
    ap (λ t. cond t (description_from rows attr_type (parts_at 59 attr_type)) (Err BadDescription)) (and_right (is_descr attr_type || is_numericoid attr_type) _ named)
    ∙ ap (description_from rows attr_type) (one_part attr_type (type_chars attr_type named))
    ∙ ap (λ t. cond (t && true) (cond (is_reserved attr_type) (Err ReservedName) (Ok (record { spelling = attr_type; key = attr_of rows attr_type }))) (Err BadDescription)) named
    ∙ ap (λ t. cond t (Err ReservedName) (Ok (record { spelling = attr_type; key = attr_of rows attr_type }))) free

pub pair_described : (rows : List TypeRow) (p : SpelledPair) → is_sound_pair p ≡ true → description_of rows p.0 ≡ Ok (record { spelling = p.0; key = attr_of rows p.0 })
pair_described rows p sound =
    let attr_type = and_left (is_type p.0 && not (is_reserved p.0)) _ sound in
    type_described rows p.0 (and_left (is_type p.0) _ attr_type) (not_true (is_reserved p.0) (and_right (is_type p.0) _ attr_type))

-- a key by any rule but Name is a text
text_keyed : (rows : List TypeRow) (rule : Rule) (value text : List ℕ) → result_ok (text_key_of rule value) ≡ Some text → value_key_by rows rule value ≡ Ok (key.Text text)
text_keyed rows rule value text e = by rule (text_key_of rule value) refl e
  where
    got : (r : Result (List ℕ) NameFault) → result_ok r ≡ Some text → as_text r ≡ Ok (key.Text text)
    got (Ok x) e = let same : x ≡ text = cc in ap (λ x. Ok (key.Text x)) same
    got (Err fault) e = absurd (cc)

    by : (rule : Rule) (r : Result (List ℕ) NameFault) → text_key_of rule value ≡ r → result_ok r ≡ Some text → value_key_by rows rule value ≡ Ok (key.Text text)
    by Octet r t e = ap as_text t ∙ got r e
    by CaseIgnore r t e = ap as_text t ∙ got r e
    by Ia5CaseIgnore r t e = ap as_text t ∙ got r e
    by Ia5CaseExact r t e = ap as_text t ∙ got r e
    by Telephone r t e = ap as_text t ∙ got r e
    by Integer r t e = ap as_text t ∙ got r e
    by Name r t e = absurd (nothing r t e)
      where
        nothing : (r : Result (List ℕ) NameFault) → Err BadValue ≡ r → result_ok r ≡ Some text → ⊥
        nothing r t e = cc
    by ObjectId r t e = ap as_text t ∙ got r e

-- the line of a pair has the pair's key
pub pair_line_keyed : (rows : List TypeRow) (p : SpelledPair) (l : KeyedLine) → pair_line rows p ≡ Some l →
    (l.description ≡ record { spelling = p.0; key = attr_of rows p.0 }) × (value_key_of rows (attr_of rows p.0) p.1 ≡ Ok l.key) × (l.bytes ≡ p.1)
pair_line_keyed rows p l e = by (result_ok (text_key_of (rule_of rows (attr_of rows p.0)) p.1)) refl e
  where
    by : (o : Option (List ℕ)) → result_ok (text_key_of (rule_of rows (attr_of rows p.0)) p.1) ≡ o →
        option_map (λ (k : Attr × List ℕ). record { description = record { spelling = p.0; key = k.0 }; key = key.Text k.1; bytes = p.1 }) (option_map (λ value. (attr_of rows p.0, value)) o) ≡ Some l →
        (l.description ≡ record { spelling = p.0; key = attr_of rows p.0 }) × (value_key_of rows (attr_of rows p.0) p.1 ≡ Ok l.key) × (l.bytes ≡ p.1)
    by None t e = absurd (cc)
    by (Some text) t e =
        let line : KeyedLine = record { description = record { spelling = p.0; key = attr_of rows p.0 }; key = key.Text text; bytes = p.1 } in
        let same : line ≡ l = cc in
        (ap (λ (l : KeyedLine). l.description) (sym same), text_keyed rows (rule_of rows (attr_of rows p.0)) p.1 text t ∙ ap (λ (l : KeyedLine). Ok l.key) same, ap (λ (l : KeyedLine). l.bytes) (sym same))

module _ (rows : List TypeRow) where
  pub all_some : {A : Type 0} (x : Option A) (xs : Option (List A)) → is_some (option_cons x xs) ≡ true → (is_some x ≡ true) × (is_some xs ≡ true)
  all_some None xs e = absurd (true≢false (sym e))
  all_some (Some x) None e = absurd (true≢false (sym e))
  all_some (Some x) (Some xs) e = (refl, refl)

  -- an RDN that has a key has lines
  lines : (rdn : SpelledRdn) → is_some (option_collect (pair_key rows) rdn) ≡ true → is_some (rdn_lines rows rdn) ≡ true
  lines [] e = refl
  lines (p ∷ ps) e =
      let both = all_some (pair_key rows p) (option_collect (pair_key rows) ps) e in
      joined (pair_key rows p) (rdn_lines rows ps) both.0 (lines ps both.1)
    where
      joined : (o : Option (Attr × List ℕ)) (ls : Option (List KeyedLine)) → is_some o ≡ true → is_some ls ≡ true →
          is_some (option_cons (option_map (λ (k : Attr × List ℕ). record { description = record { spelling = p.0; key = k.0 }; key = key.Text k.1; bytes = p.1 }) o) ls) ≡ true
      joined None ls e f = absurd (true≢false (sym e))
      joined (Some k) None e f = absurd (true≢false (sym f))
      joined (Some k) (Some ls) e f = refl

  pub keyed_rdn : (rdn : SpelledRdn) → is_some (rdn_key rows rdn) ≡ true → is_some (rdn_lines rows rdn) ≡ true
  keyed_rdn rdn e = lines rdn (keys (option_collect (pair_key rows) rdn) e)
    where
      keys : (o : Option (List (Attr × List ℕ))) → is_some (option_and_then set_if_distinct o) ≡ true → is_some o ≡ true
      keys None e = e
      keys (Some x) e = refl

  -- the lines of the pairs that are left
  pub lines_left : (xs : StoredAttributes) (p : SpelledPair) (ps : SpelledRdn) (l : KeyedLine) → is_some (rdn_lines rows (p ∷ ps)) ≡ true → pair_line rows p ≡ Some l →
      with_missing_of xs (rdn_lines rows (p ∷ ps)) ≡ with_missing_of (with_missing_line xs l) (rdn_lines rows ps)
  lines_left xs p ps l e is = by (rdn_lines rows ps) (all_some (pair_line rows p) (rdn_lines rows ps) e).1 ∙ refl
    where
      by : (o : Option (List KeyedLine)) → is_some o ≡ true → with_missing_of xs (option_cons (pair_line rows p) o) ≡ with_missing_of (with_missing_line xs l) o
      by None e = absurd (true≢false (sym e))
      by (Some ls) e = ap (λ o. with_missing_of xs (option_cons o (Some ls))) is
