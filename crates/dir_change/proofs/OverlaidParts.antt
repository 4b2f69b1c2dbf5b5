-- An entry is judged by the parts of its attributes that modifications look at.
use Rattle.std.proofs.Common.{◌≡◌, ℕ, Bool, true, false, cond, ◌&&◌, ◌||◌, ◌⊎◌, inl, inr, nat_lt, List, [], ◌∷◌, Option, Some, None, is_some, refl, sym, ap, subst, ◌∙◌, true≢false}
use Rattle.std.specs.List.{list_all, list_any}
use Rattle.std.specs.FinMap as fin
use Rattle.std.specs.Ordering.{eq_by_cmp}
use Rattle.dir_names.specs.declared.schema.TypeRow.{TypeRow}
use Rattle.dir_names.specs.declared.value.ValueKey.{ValueKey}
use Rattle.dir_names.specs.declared.value.ValueKey.TheVariants.{Text}
use Rattle.dir_names.specs.Attr.{Attr}
use Rattle.dir_names.specs.Orders.{attr_cmp, attr_cmp_total, attr_cmp_exact}
use Rattle.dir_names.specs.Table.{single_of}
use Rattle.dir_tree.specs.Content.{Stored, StoredAttributes, has_in, has_value}
use Rattle.dir_tree.specs.NewEntry.{exceeds_single_value}
use Rattle.dir_tree.specs.WellFormed.{Each}
use Rattle.dir_tree.proofs.EachEntry.{each_entry}
use Rattle.dir_tree.proofs.SoundMade.{each_get}
use Rattle.dir_change.proofs.AttributesBack.{get_slot}
use Rattle.dir_change.proofs.KeysInOrder.{is_among, same_attr}
use Rattle.dir_change.specs.Inside.Overlaid.{overlaid}
use Rattle.dir_change.specs.Inside.Looked.{AreSlotsAlike, IsFree, IsSeen, Looked}
use Rattle.dir_change.proofs.PartOfSlot.{AreLookedAt}

pub get_overlaid : (xs : StoredAttributes) (ks : List Attr) (fs : StoredAttributes) (q : Attr) → fin.get (overlaid xs ks fs) q ≡ cond (is_among q ks) (fin.get fs q) (fin.get xs q)
get_overlaid xs [] fs q = refl
get_overlaid xs (k ∷ ks) fs q = get_slot (overlaid xs ks fs) k (fin.get fs k) q ∙ by (get_overlaid xs ks fs q) (eq_by_cmp attr_cmp q k) refl
  where
    by : fin.get (overlaid xs ks fs) q ≡ cond (is_among q ks) (fin.get fs q) (fin.get xs q) → (b : Bool) → eq_by_cmp attr_cmp q k ≡ b
        → cond b (fin.get fs k) (fin.get (overlaid xs ks fs) q) ≡ cond (b || is_among q ks) (fin.get fs q) (fin.get xs q)
    by rest true t = ap (fin.get fs) (sym (same_attr q k t))
    by rest false t = rest

module _ (keys : List Attr) (looked : Attr → Option Looked) (xs ys fs : StoredAttributes) (at : AreLookedAt keys looked ys fs) (kept : (q : Attr) → is_among q keys ≡ false → fin.get ys q ≡ fin.get xs q) where
  has_alike : (o : Option Looked) (s f : Option Stored) → AreSlotsAlike o s f → (v : ValueKey) → IsSeen o v → has_in v s ≡ has_in v f
  has_alike None s f is v seen = ap (has_in v) is
  has_alike (Some p) None f is v seen = absurd is
  has_alike (Some p) (Some a) None is v seen = absurd is
  has_alike (Some p) (Some a) (Some b) is v seen = sym (ap is_some (is.inside v seen))

  pub has_overlaid : (q : Attr) (v : ValueKey) → IsSeen (looked q) v → has_value ys q v ≡ has_value (overlaid xs keys fs) q v
  has_overlaid q v seen = by (is_among q keys) refl ∙ ap (has_in v) (sym (get_overlaid xs keys fs q))
    where
      by : (b : Bool) → is_among q keys ≡ b → has_in v (fin.get ys q) ≡ has_in v (cond b (fin.get fs q) (fin.get xs q))
      by true t = has_alike (looked q) (fin.get ys q) (fin.get fs q) (at q t) v seen
      by false t = ap (has_in v) (kept q t)

  pub all_overlaid : (pairs : List (Attr × List ℕ)) → Each (λ p. IsSeen (looked p.0) (Text p.1)) pairs
      → list_all (λ p. has_value ys p.0 (Text p.1)) pairs ≡ list_all (λ p. has_value (overlaid xs keys fs) p.0 (Text p.1)) pairs
  all_overlaid [] h = refl
  all_overlaid (p ∷ ps) h = λ i. has_overlaid p.0 (Text p.1) h.0 i && all_overlaid ps h.1 i

-- ---- types of one value

module _ (rows : List TypeRow) where
  abbrev many : Attr × Stored → Bool
  many a = nat_lt 1 (fin.len a.1.values) && single_of rows a.0

  abbrev IsNotMany : Attr × Stored → Type 0
  IsNotMany a = many a ≡ false

  each_of_none : (es : List (Attr × Stored)) → list_any many es ≡ false → Each IsNotMany es
  each_of_none [] h = tt
  each_of_none (e ∷ es) h = by (many e) refl h (λ rest. each_of_none es rest)
    where
      by : (b : Bool) → many e ≡ b → (b || list_any many es) ≡ false → (list_any many es ≡ false → Each IsNotMany es) → Each IsNotMany (e ∷ es)
      by true t h f = absurd (true≢false h)
      by false t h f = (t, f h)

  none_of_each : (es : List (Attr × Stored)) → Each IsNotMany es → list_any many es ≡ false
  none_of_each [] h = refl
  none_of_each (e ∷ es) h = λ i. h.0 i || none_of_each es h.1 i

  -- what is under a key is the same, or the type may have more than one value
  abbrev pub IsSameOrFree : Attr → Option Stored → Option Stored → Type 0
  IsSameOrFree q s f = (s ≡ f) ⊎ (single_of rows q ≡ false)

  none_then : (xs ys : StoredAttributes) → ((q : Attr) → IsSameOrFree q (fin.get ys q) (fin.get xs q)) → exceeds_single_value rows xs ≡ false → exceeds_single_value rows ys ≡ false
  none_then xs ys h none = none_of_each (fin.entries ys) (each_entry attr_cmp_total attr_cmp_exact IsNotMany ys (λ q a there. by q a there (h q)))
    where
      by : (q : Attr) (a : Stored) → fin.get ys q ≡ Some a → IsSameOrFree q (fin.get ys q) (fin.get xs q) → many (q, a) ≡ false
      by q a there (inl same) = each_get attr_cmp_total attr_cmp_exact IsNotMany xs q a (each_of_none (fin.entries xs) none) (sym same ∙ there)
      by q a there (inr free) = ap (λ b. nat_lt 1 (fin.len a.values) && b) free ∙ and_false (nat_lt 1 (fin.len a.values))
        where
          and_false : (b : Bool) → (b && false) ≡ false
          and_false true = refl
          and_false false = refl

  turned : (q : Attr) (s f : Option Stored) → IsSameOrFree q s f → IsSameOrFree q f s
  turned q s f (inl same) = inl (sym same)
  turned q s f (inr free) = inr free

  pub exceeds_same : (xs ys : StoredAttributes) → ((q : Attr) → IsSameOrFree q (fin.get ys q) (fin.get xs q)) → exceeds_single_value rows ys ≡ exceeds_single_value rows xs
  exceeds_same xs ys h = by (exceeds_single_value rows ys) refl (exceeds_single_value rows xs) refl
    where
      by : (b : Bool) → exceeds_single_value rows ys ≡ b → (c : Bool) → exceeds_single_value rows xs ≡ c → b ≡ c
      by true t true u = refl
      by false t false u = refl
      by true t false u = sym t ∙ none_then xs ys h u
      by false t true u = sym (none_then ys xs (λ q. turned q (fin.get ys q) (fin.get xs q) (h q)) t) ∙ u

  module _ (keys : List Attr) (looked : Attr → Option Looked) (xs ys fs : StoredAttributes) (at : AreLookedAt keys looked ys fs) (kept : (q : Attr) → is_among q keys ≡ false → fin.get ys q ≡ fin.get xs q) where
    pub exceeds_overlaid : ((q : Attr) → is_among q keys ≡ true → IsFree rows q (looked q)) → exceeds_single_value rows ys ≡ exceeds_single_value rows (overlaid xs keys fs)
    exceeds_overlaid free = exceeds_same (overlaid xs keys fs) ys (λ q. subst (IsSameOrFree q (fin.get ys q)) (sym (get_overlaid xs keys fs q)) (by q (is_among q keys) refl))
      where
        alike : (q : Attr) (o : Option Looked) (s f : Option Stored) → AreSlotsAlike o s f → IsFree rows q o → IsSameOrFree q s f
        alike q None s f is e = inl is
        alike q (Some p) s f is e = inr e

        by : (q : Attr) (b : Bool) → is_among q keys ≡ b → IsSameOrFree q (fin.get ys q) (cond b (fin.get fs q) (fin.get xs q))
        by q true t = alike q (looked q) (fin.get ys q) (fin.get fs q) (at q t) (free q t)
        by q false t = inl (kept q t)
