-- The difference of two attributes is that of the same parts of them.
use Rattle.std.proofs.Common.{◌≡◌, ℕ, Bool, true, false, cond, not, ◌&&◌, List, [], ◌∷◌, ◌++◌, Option, Some, None, refl, sym, ap, ◌∙◌, T}
use Rattle.std.specs.List.{filter, list_all}
use Rattle.std.specs.FinMap as fin
use Rattle.std.specs.FinMap.{entries_sorted}
use Rattle.std.specs.FinMap.Entries.{is_sorted, same_entries}
use Rattle.std.specs.Ordering.{is_lt}
use Rattle.dir_names.specs.Attr.{Attr}
use Rattle.dir_names.specs.Orders.{bytes_eq_decides}
use Rattle.dir_names.specs.Sorted.{rises}
use Rattle.dir_names.specs.declared.value.ValueKey.{ValueKey}
use Rattle.dir_names.specs.Values.{value_key_cmp, value_key_cmp_total, value_key_cmp_exact}
use Rattle.dir_names.proofs.Both.{left, right}
use Rattle.dir_names.proofs.Placed.{is_sorted-keys, keys_of, so}
use Rattle.dir_ldif.specs.declared.records.Mod.{Mod}
use Rattle.dir_ldif.specs.declared.records.ModOp.TheVariants as op
use Rattle.dir_tree.specs.Content.{Stored, StoredValues}
use Rattle.dir_change.specs.Difference.{bytes_of, has_exactly, modification, modification_if_any, slot_difference, values_missing_in}
use Rattle.dir_change.specs.Modify.{KeyedValues}
use Rattle.dir_change.proofs.SlotBack.{if_differs, missing_found}
use Rattle.dir_change.specs.Inside.Looked.{AreSlotsAlike, IsPartOf, Looked}

truth : {b : Bool} → T b → b ≡ true
truth {b} t = elim b as (λ b. T b → b ≡ true) [ true ↦ λ _. refl | _ ↦ λ f. absurd f ] t

module _ (test : ValueKey × List ℕ → Bool) where
  passing_all : (q : ValueKey → Bool) (es : KeyedValues) → list_all q (keys_of value_key_cmp es) ≡ true → list_all q (keys_of value_key_cmp (filter test es)) ≡ true
  passing_all q [] h = refl
  passing_all q (e ∷ es) h = by (test e) (passing_all q es (right (q e.0) (list_all q (keys_of value_key_cmp es)) h))
    where
      by : (b : Bool) → list_all q (keys_of value_key_cmp (filter test es)) ≡ true → list_all q (keys_of value_key_cmp (cond b (e ∷ filter test es) (filter test es))) ≡ true
      by true rest = λ i. left (q e.0) (list_all q (keys_of value_key_cmp es)) h i && rest i
      by false rest = rest

  passing_rises : (es : KeyedValues) → rises value_key_cmp (keys_of value_key_cmp es) ≡ true → rises value_key_cmp (keys_of value_key_cmp (filter test es)) ≡ true
  passing_rises [] h = refl
  passing_rises (e ∷ es) h = by (test e) (passing_rises es (right (list_all (λ x. is_lt (value_key_cmp e.0 x)) (keys_of value_key_cmp es)) (rises value_key_cmp (keys_of value_key_cmp es)) h))
    where
      by : (b : Bool) → rises value_key_cmp (keys_of value_key_cmp (filter test es)) ≡ true → rises value_key_cmp (keys_of value_key_cmp (cond b (e ∷ filter test es) (filter test es))) ≡ true
      by true rest = λ i. passing_all (λ x. is_lt (value_key_cmp e.0 x)) es (left (list_all (λ x. is_lt (value_key_cmp e.0 x)) (keys_of value_key_cmp es)) (rises value_key_cmp (keys_of value_key_cmp es)) h) i && rest i
      by false rest = rest

missing_sorted : (x y : StoredValues) → T (is_sorted value_key_cmp (values_missing_in x y))
missing_sorted x y =
    so _ (is_sorted-keys value_key_cmp (values_missing_in x y)
    ∙ passing_rises (λ p. not (has_exactly y p)) (fin.entries x) (sym (is_sorted-keys value_key_cmp (fin.entries x)) ∙ truth (entries_sorted x)))

-- what is missing is the same where each value differs as much
pub same_missing : (x y f g : StoredValues) → ((v : ValueKey) → if_differs x y (fin.get x v) (fin.get y v) ≡ if_differs f g (fin.get f v) (fin.get g v)) → values_missing_in x y ≡ values_missing_in f g
same_missing x y f g h = same_entries value_key_cmp value_key_cmp_total value_key_cmp_exact (values_missing_in x y) (values_missing_in f g) (missing_sorted x y) (missing_sorted f g)
    (λ v. missing_found x y v ∙ h v ∙ sym (missing_found f g v))

module _ (test : ValueKey → Bool) (first : Stored) (one : ValueKey) (a f b g : Stored) (is : IsPartOf test first one a f) (was : IsPartOf test first one b g) where
  -- what the one attribute has and the other has not, looked at in part
  part_missing : values_missing_in a.values b.values ≡ values_missing_in f.values g.values
  part_missing = same_missing a.values b.values f.values g.values (λ v. by v (test v) refl)
    where
      none : (o : Option (List ℕ)) → if_differs a.values b.values o o ≡ None
      none None = refl
      none (Some bytes) = ap (λ c. cond (not c) (Some bytes) None) ((bytes_eq_decides bytes bytes).1 refl)

      by : (v : ValueKey) (t : Bool) → test v ≡ t → if_differs a.values b.values (fin.get a.values v) (fin.get b.values v) ≡ if_differs f.values g.values (fin.get f.values v) (fin.get g.values v)
      by v true t = sym (λ i. if_differs f.values g.values (is.inside v t i) (was.inside v t i))
      by v false t =
          (λ i. if_differs a.values b.values (is.outside v t i) (was.outside v t i))
          ∙ none (fin.get first.values v)
          ∙ sym (λ i. if_differs f.values g.values (is.nothing_else v t i) (was.nothing_else v t i))

-- the modifications from one attribute to the other of the same spelling
abbrev exchange : Attr → List ℕ → KeyedValues → KeyedValues → List Mod
exchange k spelling gone come = modification_if_any k spelling op.Delete (bytes_of gone) ++ modification_if_any k spelling op.Add (bytes_of come)

same_spelled : (k : Attr) (a b : Stored) → a.spelling ≡ b.spelling → slot_difference k (Some a) (Some b) ≡ exchange k b.spelling (values_missing_in a.values b.values) (values_missing_in b.values a.values)
same_spelled k a b same =
    ap (λ c. cond c (exchange k b.spelling (values_missing_in a.values b.values) (values_missing_in b.values a.values)) (modification k b.spelling op.Replace (bytes_of (fin.entries b.values)) ∷ []))
    ((bytes_eq_decides a.spelling b.spelling).1 same)

pub slot_difference_alike : (k : Attr) (o : Option Looked) (s f t g : Option Stored) → AreSlotsAlike o s f → AreSlotsAlike o t g → slot_difference k s t ≡ slot_difference k f g
slot_difference_alike k None s f t g is was = λ i. slot_difference k (is i) (was i)
slot_difference_alike k (Some p) None f t g is was = absurd is
slot_difference_alike k (Some p) (Some a) None t g is was = absurd is
slot_difference_alike k (Some p) (Some a) (Some f) None g is was = absurd was
slot_difference_alike k (Some p) (Some a) (Some f) (Some b) None is was = absurd was
slot_difference_alike k (Some p) (Some a) (Some f) (Some b) (Some g) is was =
    same_spelled k a b (is.spelled_first ∙ sym was.spelled_first)
    ∙ (λ i. exchange k (sym was.spelled i) (part_missing p.test p.first p.one a f b g is was i) (part_missing p.test p.first p.one b g a f was is i))
    ∙ sym (same_spelled k f g (is.spelled ∙ is.spelled_first ∙ sym was.spelled_first ∙ sym was.spelled))
