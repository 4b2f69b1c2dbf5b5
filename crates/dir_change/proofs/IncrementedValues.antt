-- The values that an increment leaves: each is an integer, sound, and its own key.
use Rattle.std.proofs.Common.{◌≡◌, ℕ, Bool, true, false, cond, List, [], ◌∷◌, ◌++◌, map, ℤ, ◌+ℤ◌, Option, Some, None, is_some, refl, sym, ap, subst, ◌∙◌, true≢false}
use Rattle.std.specs.FinMap as fin
use Rattle.std.specs.FinMap.{get-empty, get-insert, same_map}
use Rattle.std.specs.Fmt.{signed_decimal}
use Rattle.std.specs.Option.{option_and_then}
use Rattle.std.specs.Ordering.{eq_by_cmp}
use Rattle.dir_names.specs.declared.schema.Rule.{Rule}
use Rattle.dir_names.specs.declared.schema.Rule.TheVariants.{Octet, CaseIgnore, Ia5CaseIgnore, Ia5CaseExact, Telephone, Integer, Name, ObjectId}
use Rattle.dir_names.specs.declared.schema.TypeRow.{TypeRow}
use Rattle.dir_names.specs.declared.value.ValueKey.{ValueKey}
use Rattle.dir_names.specs.declared.value.ValueKey.TheVariants.{Text}
use Rattle.dir_names.specs.Attr.{Attr}
use Rattle.dir_names.specs.NameKeys.{as_text, value_key_by}
use Rattle.dir_names.specs.Results.{option_collect, option_cons}
use Rattle.dir_names.specs.Table.{rule_of}
use Rattle.dir_names.specs.ValueKeys.{key_if}
use Rattle.dir_names.specs.Values.{value_key_cmp, value_key_cmp_total, value_key_cmp_exact}
use Rattle.dir_names.proofs.AllLemmas.{all_more, prefixed}
use Rattle.dir_tree.specs.Content.{StoredValues}
use Rattle.dir_tree.specs.WellFormed.{Each, IsSoundValue}
use Rattle.dir_change.specs.Increment.{fits_128, keyed_integer, number_within, sum_text, sums, text_within}
use Rattle.dir_change.specs.Modify.{has_integers}
use Rattle.dir_change.proofs.Decimals.{decimal_bytes, decimal_integer, decimal_short}
use Rattle.dir_change.proofs.ValueSets.{same_value}

-- ---- the sums

pub integers_only : (r : Rule) → has_integers r ≡ true → r ≡ Integer
integers_only Integer h = refl
integers_only Octet h = absurd (true≢false (sym h))
integers_only CaseIgnore h = absurd (true≢false (sym h))
integers_only Ia5CaseIgnore h = absurd (true≢false (sym h))
integers_only Ia5CaseExact h = absurd (true≢false (sym h))
integers_only Telephone h = absurd (true≢false (sym h))
integers_only Name h = absurd (true≢false (sym h))
integers_only ObjectId h = absurd (true≢false (sym h))

module _ (rows : List TypeRow) (k : Attr) (rule : rule_of rows k ≡ Integer) where
  abbrev pub IsSound : List ℕ → Type 0
  IsSound text = IsSoundValue rows k (keyed_integer text)

  text_sound : (z : ℤ) → fits_128 z ≡ true → IsSound (signed_decimal z)
  text_sound z fits =
      (ap (λ r. value_key_by rows r (signed_decimal z)) rule ∙ ap (λ b. as_text (key_if b (signed_decimal z))) (decimal_integer z fits), decimal_short z fits, decimal_bytes z fits)

  sum_sound : (amount : ℤ) (value text : List ℕ) → sum_text amount value ≡ Some text → IsSound text
  sum_sound amount value text is = by (number_within value) is
    where
      fit : (z : ℤ) (b : Bool) → fits_128 z ≡ b → cond b (Some (signed_decimal z)) None ≡ Some text → IsSound text
      fit z false t h = absurd (cc)
      fit z true t h = let same : signed_decimal z ≡ text = cc in subst IsSound same (text_sound z t)

      by : (o : Option ℤ) → option_and_then (λ number. text_within (amount +ℤ number)) o ≡ Some text → IsSound text
      by None h = absurd (cc)
      by (Some number) h = fit (amount +ℤ number) (fits_128 (amount +ℤ number)) refl h

  pub sums_sound : (amount : ℤ) (ps : List (ValueKey × List ℕ)) (texts : List (List ℕ)) → option_collect (λ p. sum_text amount p.1) ps ≡ Some texts → Each (IsSoundValue rows k) (map keyed_integer texts)
  sums_sound amount [] texts is = let same : [] ≡ texts = cc in subst (λ ts. Each (IsSoundValue rows k) (map keyed_integer ts)) same tt
  sums_sound amount (p ∷ ps) texts is = by (sum_text amount p.1) (option_collect (λ q. sum_text amount q.1) ps) refl (λ more t. sums_sound amount ps more t) is
    where
      by : (o : Option (List ℕ)) (r : Option (List (List ℕ))) → sum_text amount p.1 ≡ o → ((more : List (List ℕ)) → r ≡ Some more → Each (IsSoundValue rows k) (map keyed_integer more))
          → option_cons o r ≡ Some texts → Each (IsSoundValue rows k) (map keyed_integer texts)
      by None r t rest h = absurd (cc)
      by (Some text) None t rest h = absurd (cc)
      by (Some text) (Some more) t rest h =
          let same : text ∷ more ≡ texts = cc in
          subst (λ ts. Each (IsSoundValue rows k) (map keyed_integer ts)) same (sum_sound amount p.1 text t, rest more refl)

-- the texts of the sums so far, and those of the values to come
abbrev pub AreSumsSoFar : ℤ → StoredValues → List (List ℕ) → List (ValueKey × List ℕ) → Type 0
AreSumsSoFar amount values done ps = sums amount values ≡ prefixed done (option_collect (λ p. sum_text amount p.1) ps)

pub one_more_sum : (amount : ℤ) (values : StoredValues) (done now : List (List ℕ)) (ps rest : List (ValueKey × List ℕ)) (p : ValueKey × List ℕ) (text : List ℕ)
    → AreSumsSoFar amount values done ps → ps ≡ p ∷ rest → sum_text amount p.1 ≡ Some text → now ≡ done ++ text ∷ [] → AreSumsSoFar amount values now rest
one_more_sum amount values done now ps rest p text so_far first is longer =
    all_more (λ q. sum_text amount q.1) (fin.entries values) done p rest (so_far ∙ ap (λ qs. prefixed done (option_collect (λ q. sum_text amount q.1) qs)) first) text is
    ∙ ap (λ texts. prefixed texts (option_collect (λ q. sum_text amount q.1) rest)) (sym longer)

-- ---- values that are their own keys

abbrev pub AreOwnKeys : StoredValues → Type 0
AreOwnKeys values = (v : ValueKey) (bytes : List ℕ) → fin.get values v ≡ Some bytes → v ≡ Text bytes

pub none_own : AreOwnKeys (fin.empty {K = ValueKey} {X = List ℕ} {R = value_key_cmp})
none_own v bytes h = let none = get-empty {X = List ℕ} value_key_cmp v in absurd (cc)

pub one_more_own : (values : StoredValues) → AreOwnKeys values → (text : List ℕ) → AreOwnKeys (fin.insert values (Text text) text)
one_more_own values own text v bytes there = by (eq_by_cmp value_key_cmp v (Text text)) refl (sym (get-insert value_key_cmp_total values (Text text) text v) ∙ there)
  where
    by : (b : Bool) → eq_by_cmp value_key_cmp v (Text text) ≡ b → cond b (Some text) (fin.get values v) ≡ Some bytes → v ≡ Text bytes
    by false t h = own v bytes h
    by true t h = let same : text ≡ bytes = cc in same_value v (Text text) t ∙ ap Text same

-- to add such a value once more changes nothing
same_again : (values : StoredValues) → AreOwnKeys values → (text bytes : List ℕ) → fin.get values (Text text) ≡ Some bytes → fin.insert values (Text text) text ≡ values
same_again values own text bytes there = same_map value_key_cmp_total value_key_cmp_exact (fin.insert values (Text text) text) values (λ q.
    get-insert value_key_cmp_total values (Text text) text q ∙ by q (eq_by_cmp value_key_cmp q (Text text)) refl)
  where
    bytes_are : text ≡ bytes
    bytes_are = let key = own (Text text) bytes there in cc

    by : (q : ValueKey) (b : Bool) → eq_by_cmp value_key_cmp q (Text text) ≡ b → cond b (Some text) (fin.get values q) ≡ fin.get values q
    by q false t = refl
    by q true t = ap Some bytes_are ∙ sym there ∙ ap (fin.get values) (sym (same_value q (Text text) t))

pub insert_once : (values : StoredValues) → AreOwnKeys values → (text : List ℕ) → cond (fin.contains_key values (Text text)) values (fin.insert values (Text text) text) ≡ fin.insert values (Text text) text
insert_once values own text = by (fin.get values (Text text)) refl
  where
    by : (o : Option (List ℕ)) → fin.get values (Text text) ≡ o → cond (is_some (fin.get values (Text text))) values (fin.insert values (Text text) text) ≡ fin.insert values (Text text) text
    by None t = ap (λ o. cond (is_some o) values (fin.insert values (Text text) text)) t
    by (Some bytes) t = ap (λ o. cond (is_some o) values (fin.insert values (Text text) text)) t ∙ sym (same_again values own text bytes t)
