-- Attributes exchanged key by key: what is under each key afterwards.
use Rattle.std.proofs.Common.{◌≡◌, Bool, true, false, cond, List, [], ◌∷◌, Option, Some, None, refl, sym, ap, ◌∙◌, T}
use Rattle.std.specs.List.{list_all}
use Rattle.std.specs.FinMap as fin
use Rattle.std.specs.FinMap.{entries_sorted, find, get-entries, get-remove}
use Rattle.std.specs.Ordering.{eq_by_cmp, is_lt}
use Rattle.dir_names.specs.Attr.{Attr}
use Rattle.dir_names.specs.Orders.{attr_cmp, attr_cmp_total, attr_cmp_exact, bytes_eq}
use Rattle.dir_names.specs.Sorted.{rises}
use Rattle.dir_names.proofs.Both.{left, right}
use Rattle.dir_names.proofs.Placed.{is_sorted-keys, keys_of}
use Rattle.dir_tree.specs.Content.{Stored, StoredAttributes}
use Rattle.dir_tree.specs.WellFormed.{Each}
use Rattle.dir_tree.proofs.EachEntry.{apart, each_entry}
use Rattle.dir_change.specs.Inside.Exchanged.{Fit, FitAttributes, AreGrowingAttributes, IsGrowing, all_grown, all_settled, all_shrunk, exchanged_slot, grown_at, grown_by, grown_stored, settled_by, settled_in, settled_slot, shrunk_at, shrunk_by, shrunk_slot}
use Rattle.dir_change.specs.Inside.Patched.{patched_values}
use Rattle.dir_change.proofs.AttributesBack.{get_slot, same_attributes}
use Rattle.dir_change.proofs.ExchangedInTurn.{grown_is, settled_is_by, shrunk_is_by}
use Rattle.dir_change.proofs.ExchangedParts.{settled_is, shrunk_is}
use Rattle.dir_change.proofs.KeysInOrder.{same_attr}

truth : {b : Bool} → T b → b ≡ true
truth {b} t = elim b as (λ b. T b → b ≡ true) [ true ↦ λ _. refl | _ ↦ λ f. absurd f ] t

abbrev rise : List (Attr × Stored) → Bool
rise es = rises attr_cmp (keys_of attr_cmp es)

entries_rise : (xs : StoredAttributes) → rise (fin.entries xs) ≡ true
entries_rise xs = sym (is_sorted-keys attr_cmp (fin.entries xs)) ∙ truth (entries_sorted xs)

-- each attribute of a map is found in it
pub each_there : (xs : StoredAttributes) → Each (λ e. fin.get xs e.0 ≡ Some e.1) (fin.entries xs)
each_there xs = each_entry attr_cmp_total attr_cmp_exact (λ e. fin.get xs e.0 ≡ Some e.1) xs (λ k a there. there)

module _ (e : Attr × Stored) (es : List (Attr × Stored)) (h : rise (e ∷ es) ≡ true) where
  rest_rises : rise es ≡ true
  rest_rises = right (list_all (λ x. is_lt (attr_cmp e.0 x)) (keys_of attr_cmp es)) (rise es) h

  once : (q : Attr) → eq_by_cmp attr_cmp q e.0 ≡ true → find attr_cmp q es ≡ None
  once q t = ap (λ z. find attr_cmp z es) (same_attr q e.0 t) ∙ apart attr_cmp_total attr_cmp_exact (λ e. e ≡ e) e.0 es (left (list_all (λ x. is_lt (attr_cmp e.0 x)) (keys_of attr_cmp es)) (rise es) h)

-- ---- grown

abbrev grown_or : Option Stored → Option Stored → Option Stored
grown_or slot None = slot
grown_or slot (Some b) = Some (grown_stored slot b)

get_all_grown : (es : List (Attr × Stored)) → rise es ≡ true → (xs : StoredAttributes) (q : Attr) → fin.get (all_grown xs es) q ≡ grown_or (fin.get xs q) (find attr_cmp q es)
get_all_grown [] h xs q = refl
get_all_grown (e ∷ es) h xs q =
    get_all_grown es (rest_rises e es h) (grown_at xs e.0 e.1) q
    ∙ ap (λ o. grown_or o (find attr_cmp q es)) (get_slot xs e.0 (Some (grown_stored (fin.get xs e.0) e.1)) q)
    ∙ by (eq_by_cmp attr_cmp q e.0) refl
  where
    by : (b : Bool) → eq_by_cmp attr_cmp q e.0 ≡ b → grown_or (cond b (Some (grown_stored (fin.get xs e.0) e.1)) (fin.get xs q)) (find attr_cmp q es) ≡ grown_or (fin.get xs q) (cond b (Some e.1) (find attr_cmp q es))
    by false t = refl
    by true t = ap (grown_or (Some (grown_stored (fin.get xs e.0) e.1))) (once e es h q t) ∙ ap (λ z. Some (grown_stored (fin.get xs z) e.1)) (sym (same_attr q e.0 t))

-- ---- shrunk

abbrev shrunk_or : Option Stored → Option Stored → Option Stored → Option Stored
shrunk_or slot a None = slot
shrunk_or slot a (Some b) = shrunk_slot slot a b

get_all_shrunk : (before : StoredAttributes) (es : List (Attr × Stored)) → rise es ≡ true → (xs : StoredAttributes) (q : Attr) → fin.get (all_shrunk before xs es) q ≡ shrunk_or (fin.get xs q) (fin.get before q) (find attr_cmp q es)
get_all_shrunk before [] h xs q = refl
get_all_shrunk before (e ∷ es) h xs q =
    get_all_shrunk before es (rest_rises e es h) (shrunk_at before xs e.0 e.1) q
    ∙ ap (λ o. shrunk_or o (fin.get before q) (find attr_cmp q es)) (get_slot xs e.0 (shrunk_slot (fin.get xs e.0) (fin.get before e.0) e.1) q)
    ∙ by (eq_by_cmp attr_cmp q e.0) refl
  where
    by : (b : Bool) → eq_by_cmp attr_cmp q e.0 ≡ b → shrunk_or (cond b (shrunk_slot (fin.get xs e.0) (fin.get before e.0) e.1) (fin.get xs q)) (fin.get before q) (find attr_cmp q es) ≡ shrunk_or (fin.get xs q) (fin.get before q) (cond b (Some e.1) (find attr_cmp q es))
    by false t = refl
    by true t = ap (shrunk_or (shrunk_slot (fin.get xs e.0) (fin.get before e.0) e.1) (fin.get before q)) (once e es h q t) ∙ ap (λ z. shrunk_slot (fin.get xs z) (fin.get before z) e.1) (sym (same_attr q e.0 t))

-- ---- settled

abbrev settled_or : Option Stored → Option Stored → Option Stored → Option Stored
settled_or slot None after = slot
settled_or slot (Some a) after = settled_slot slot a after

get_all_settled : (es : List (Attr × Stored)) → rise es ≡ true → (after xs : StoredAttributes) (q : Attr) → fin.get (all_settled after xs es) q ≡ settled_or (fin.get xs q) (find attr_cmp q es) (fin.get after q)
get_all_settled [] h after xs q = refl
get_all_settled (e ∷ es) h after xs q =
    get_all_settled es (rest_rises e es h) (fin.remove after e.0) (settled_in after xs e.0 e.1) q
    ∙ (λ i. settled_or (get_slot xs e.0 (settled_slot (fin.get xs e.0) e.1 (fin.get after e.0)) q i) (find attr_cmp q es) (get-remove attr_cmp_total after e.0 q i))
    ∙ by (eq_by_cmp attr_cmp q e.0) refl
  where
    by : (b : Bool) → eq_by_cmp attr_cmp q e.0 ≡ b → settled_or (cond b (settled_slot (fin.get xs e.0) e.1 (fin.get after e.0)) (fin.get xs q)) (find attr_cmp q es) (cond b None (fin.get after q)) ≡ settled_or (fin.get xs q) (cond b (Some e.1) (find attr_cmp q es)) (fin.get after q)
    by false t = refl
    by true t = ap (λ o. settled_or (settled_slot (fin.get xs e.0) e.1 (fin.get after e.0)) o None) (once e es h q t) ∙ ap (λ z. settled_slot (fin.get xs z) e.1 (fin.get after z)) (sym (same_attr q e.0 t))

-- ---- the whole exchange, and the way back when memory runs out

slot_settled : (x a b : Option Stored) → Fit x a b → settled_or (grown_or x b) a b ≡ exchanged_slot x a b
slot_settled x None None fits = refl
slot_settled None None (Some b) fits = refl
slot_settled (Some x) None (Some b) fits = absurd fits
slot_settled None (Some a) b fits = absurd fits
slot_settled (Some x) (Some a) None fits = refl
slot_settled (Some x) (Some a) (Some b) fits = by (bytes_eq a.spelling b.spelling) refl
  where
    by : (c : Bool) → bytes_eq a.spelling b.spelling ≡ c
        → Some (cond c (record { spelling = x.spelling; values = settled_by b.values (grown_by x.values (fin.entries b.values)) (fin.entries a.values) }) b) ≡ cond c (Some (record { spelling = x.spelling; values = patched_values x.values a.values b.values })) (Some b)
    by true e = ap (λ vs. Some (record { spelling = x.spelling; values = vs })) (settled_is x.values a.values b.values fits (grown_by x.values (fin.entries b.values)) (grown_is x.values b.values) (settled_by b.values (grown_by x.values (fin.entries b.values)) (fin.entries a.values)) (settled_is_by (grown_by x.values (fin.entries b.values)) a.values b.values))
    by false e = refl

slot_shrunk : (x a b n : Option Stored) → Fit x a b → IsGrowing x b n → shrunk_or n a b ≡ x
slot_shrunk x a None n fits growing = growing
slot_shrunk None None (Some b) None fits growing = refl
slot_shrunk None None (Some b) (Some n) fits growing = refl
slot_shrunk (Some x) None (Some b) n fits growing = absurd fits
slot_shrunk None (Some a) (Some b) n fits growing = absurd fits
slot_shrunk (Some x) (Some a) (Some b) None fits growing = absurd growing
slot_shrunk (Some x) (Some a) (Some b) (Some n) fits growing =
    λ i. Some (record { spelling = growing.0 i; values = shrunk_is x.values a.values b.values fits n.values growing.1 (shrunk_by a.values n.values (fin.entries b.values)) (shrunk_is_by n.values a.values b.values) i })

module _ (xs before after : StoredAttributes) (fits : FitAttributes xs before after) where
  pub are_exchanged : (q : Attr) → fin.get (all_settled after (all_grown xs (fin.entries after)) (fin.entries before)) q ≡ exchanged_slot (fin.get xs q) (fin.get before q) (fin.get after q)
  are_exchanged q =
      get_all_settled (fin.entries before) (entries_rise before) after (all_grown xs (fin.entries after)) q
      ∙ (λ i. settled_or (get_all_grown (fin.entries after) (entries_rise after) xs q i) (sym (get-entries before q) i) (fin.get after q))
      ∙ ap (λ o. settled_or (grown_or (fin.get xs q) o) (fin.get before q) (fin.get after q)) (sym (get-entries after q))
      ∙ slot_settled (fin.get xs q) (fin.get before q) (fin.get after q) (fits q)

  pub are_as_before : (ys : StoredAttributes) → AreGrowingAttributes xs after ys → all_shrunk before ys (fin.entries after) ≡ xs
  are_as_before ys growing = same_attributes (all_shrunk before ys (fin.entries after)) xs (λ q.
      get_all_shrunk before (fin.entries after) (entries_rise after) ys q
      ∙ ap (shrunk_or (fin.get ys q) (fin.get before q)) (sym (get-entries after q))
      ∙ slot_shrunk (fin.get xs q) (fin.get before q) (fin.get after q) (fin.get ys q) (fits q) (growing q))
