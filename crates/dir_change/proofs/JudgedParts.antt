-- An entry that has other attributes under some keys, judged by these and by those that it keeps.
use Rattle.std.proofs.Common.{◌≡◌, Bool, true, false, cond, not, ◌&&◌, ◌||◌, nat_lt, List, [], ◌∷◌, Some, None, Ok, Err, refl, sym, ap, ◌∙◌, true≢false}
use Rattle.std.specs.List.{list_any}
use Rattle.std.specs.FinMap as fin
use Rattle.dir_names.specs.declared.schema.TypeRow.{TypeRow}
use Rattle.dir_names.specs.declared.value.ValueKey.{ValueKey}
use Rattle.dir_names.specs.Attr.{Attr}
use Rattle.dir_names.specs.Orders.{attr_cmp_ties, attr_cmp_total, attr_cmp_exact, attr_eq, attr_eq_decides}
use Rattle.dir_names.specs.Table.{single_of}
use Rattle.dir_tree.specs.ChangedEntry.{changed_entry, has_own_values}
use Rattle.dir_tree.specs.Content.{Content, Stored, StoredAttributes, has_in, has_value}
use Rattle.dir_tree.specs.NewEntry.{exceeds_single_value}
use Rattle.dir_tree.specs.WellFormed.{Each}
use Rattle.dir_tree.proofs.EachEntry.{each_entry}
use Rattle.dir_tree.proofs.SoundMade.{each_get}
use Rattle.dir_change.specs.Inside.Looked.{is_one_of}
use Rattle.dir_change.specs.Inside.Overlaid.{overlaid}
use Rattle.dir_change.specs.Refusals.{entry_or_code}
use Rattle.dir_change.specs.declared.result_code.ResultCode.TheVariants.{ConstraintViolation}
use Rattle.dir_change.proofs.OverlaidParts.{get_overlaid}

attr_eq_turned : (q k : Attr) → attr_eq k q ≡ attr_eq q k
attr_eq_turned q k = by (attr_eq k q) refl (attr_eq q k) refl
  where
    by : (b : Bool) → attr_eq k q ≡ b → (c : Bool) → attr_eq q k ≡ c → b ≡ c
    by true t true u = refl
    by false t false u = refl
    by true t false u = sym ((attr_eq_decides q k).1 (sym ((attr_eq_decides k q).0 t))) ∙ u
    by false t true u = sym t ∙ (attr_eq_decides k q).1 (sym ((attr_eq_decides q k).0 u))

pub one_of_same : (q : Attr) (ks : List Attr) → list_any (λ k. attr_eq k q) ks ≡ is_one_of q ks
one_of_same q [] = refl
one_of_same q (k ∷ ks) = λ i. (attr_eq_turned q k ∙ attr_cmp_ties q k) i || one_of_same q ks i

module _ (xs fs : StoredAttributes) (ks : List Attr) where
  pub has_there : (q : Attr) (v : ValueKey) → is_one_of q ks ≡ true → has_value fs q v ≡ has_value (overlaid xs ks fs) q v
  has_there q v t = ap (has_in v) (sym (get_overlaid xs ks fs q ∙ ap (λ b. cond b (fin.get fs q) (fin.get xs q)) t))

  pub has_elsewhere : (q : Attr) (v : ValueKey) → is_one_of q ks ≡ false → has_value xs q v ≡ has_value (overlaid xs ks fs) q v
  has_elsewhere q v t = ap (has_in v) (sym (get_overlaid xs ks fs q ∙ ap (λ b. cond b (fin.get fs q) (fin.get xs q)) t))

-- ---- types of one value

module _ (test : Attr × Stored → Bool) where
  none_passes : (es : List (Attr × Stored)) → list_any test es ≡ false → Each (λ e. (test e ≡ false)) es
  none_passes [] h = tt
  none_passes (e ∷ es) h = by (test e) refl h (λ rest. none_passes es rest)
    where
      by : (b : Bool) → test e ≡ b → (b || list_any test es) ≡ false → (list_any test es ≡ false → Each (λ e. (test e ≡ false)) es) → Each (λ e. (test e ≡ false)) (e ∷ es)
      by true t h f = absurd (true≢false h)
      by false t h f = (t, f h)

  any_of_none : (es : List (Attr × Stored)) → Each (λ e. (test e ≡ false)) es → list_any test es ≡ false
  any_of_none [] h = refl
  any_of_none (e ∷ es) h = λ i. h.0 i || any_of_none es h.1 i

module _ (rows : List TypeRow) (xs fs : StoredAttributes) (ks : List Attr) (only : (q : Attr) → is_one_of q ks ≡ false → fin.get fs q ≡ None) where
  abbrev many : Attr × Stored → Bool
  many a = nat_lt 1 (fin.len a.1.values) && single_of rows a.0

  abbrev other_many : Attr × Stored → Bool
  other_many a = not (is_one_of a.0 ks) && many a

  -- none where neither those that are kept nor those that came exceed
  none_then : list_any other_many (fin.entries xs) ≡ false → list_any many (fin.entries fs) ≡ false → list_any many (fin.entries (overlaid xs ks fs)) ≡ false
  none_then kept came = any_of_none many (fin.entries (overlaid xs ks fs)) (each_entry attr_cmp_total attr_cmp_exact (λ e. (many e ≡ false)) (overlaid xs ks fs) (λ q a there. by q a (is_one_of q ks) refl (sym (get_overlaid xs ks fs q) ∙ there)))
    where
      by : (q : Attr) (a : Stored) (b : Bool) → is_one_of q ks ≡ b → cond b (fin.get fs q) (fin.get xs q) ≡ Some a → many (q, a) ≡ false
      by q a true t there = each_get attr_cmp_total attr_cmp_exact (λ e. (many e ≡ false)) fs q a (none_passes many (fin.entries fs) came) there
      by q a false t there = ap (λ b. not b && many (q, a)) (sym t) ∙ each_get attr_cmp_total attr_cmp_exact (λ e. (other_many e ≡ false)) xs q a (none_passes other_many (fin.entries xs) kept) there

  module _ (none : list_any many (fin.entries (overlaid xs ks fs)) ≡ false) where
    none_at : (q : Attr) (a : Stored) → fin.get (overlaid xs ks fs) q ≡ Some a → many (q, a) ≡ false
    none_at q a there = each_get attr_cmp_total attr_cmp_exact (λ e. (many e ≡ false)) (overlaid xs ks fs) q a (none_passes many (fin.entries (overlaid xs ks fs)) none) there

    none_kept : list_any other_many (fin.entries xs) ≡ false
    none_kept = any_of_none other_many (fin.entries xs) (each_entry attr_cmp_total attr_cmp_exact (λ e. (other_many e ≡ false)) xs (λ q a there. by q a (is_one_of q ks) refl there))
      where
        by : (q : Attr) (a : Stored) (b : Bool) → is_one_of q ks ≡ b → fin.get xs q ≡ Some a → (not (is_one_of q ks) && many (q, a)) ≡ false
        by q a true t there = ap (λ b. not b && many (q, a)) t
        by q a false t there = ap (λ b. not b && many (q, a)) t ∙ none_at q a (get_overlaid xs ks fs q ∙ ap (λ b. cond b (fin.get fs q) (fin.get xs q)) t ∙ there)

    none_came : list_any many (fin.entries fs) ≡ false
    none_came = any_of_none many (fin.entries fs) (each_entry attr_cmp_total attr_cmp_exact (λ e. (many e ≡ false)) fs (λ q a there. by q a (is_one_of q ks) refl there))
      where
        by : (q : Attr) (a : Stored) (b : Bool) → is_one_of q ks ≡ b → fin.get fs q ≡ Some a → many (q, a) ≡ false
        by q a true t there = none_at q a (get_overlaid xs ks fs q ∙ ap (λ b. cond b (fin.get fs q) (fin.get xs q)) t ∙ there)
        by q a false t there = let same : None ≡ Some a = sym (only q t) ∙ there in absurd (cc)

  pub exceeds_either : (list_any other_many (fin.entries xs) || exceeds_single_value rows fs) ≡ exceeds_single_value rows (overlaid xs ks fs)
  exceeds_either = by (list_any other_many (fin.entries xs)) refl (exceeds_single_value rows fs) refl (exceeds_single_value rows (overlaid xs ks fs)) refl
    where
      by : (a : Bool) → list_any other_many (fin.entries xs) ≡ a → (b : Bool) → exceeds_single_value rows fs ≡ b → (c : Bool) → exceeds_single_value rows (overlaid xs ks fs) ≡ c → (a || b) ≡ c
      by true s b t true u = refl
      by true s b t false u = sym s ∙ none_kept u
      by false s true t true u = refl
      by false s true t false u = sym t ∙ none_came u
      by false s false t false u = refl
      by false s false t true u = sym (none_then s t) ∙ u

-- ---- the entry

module _ (rows : List TypeRow) (e : Content) (own : has_own_values e ≡ true) where
  pub is_too_many : exceeds_single_value rows e.attributes ≡ true → entry_or_code (changed_entry rows e) ≡ Err ConstraintViolation
  is_too_many many = rw (own, many) refl

  pub is_fine : exceeds_single_value rows e.attributes ≡ false → entry_or_code (changed_entry rows e) ≡ Ok e
  is_fine few = rw (own, few) refl
