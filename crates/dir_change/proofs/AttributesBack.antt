-- The difference of two entries' attributes leads from the first to the second.
use Rattle.std.proofs.Common.{◌≡◌, ℕ, Bool, true, false, cond, ◌||◌, List, [], ◌∷◌, ◌++◌, map, Option, Some, None, is_some, Result, Ok, Err, refl, sym, ap, ◌∙◌, true≢false}
use Rattle.std.specs.List.{list_all}
use Rattle.std.specs.FinMap as fin
use Rattle.std.specs.FinMap.{contains_key-keys, get-insert, get-remove, same_map}
use Rattle.std.specs.Ordering.{eq_by_cmp, is_eq, is_lt}
use Rattle.std.specs.Cmp.{tied_itself}
use Rattle.dir_names.specs.declared.schema.TypeRow.{TypeRow}
use Rattle.dir_names.specs.Attr.{Attr}
use Rattle.dir_names.specs.Orders.{attr_cmp, attr_cmp_total, attr_cmp_exact, bytes_eq}
use Rattle.dir_names.specs.Results.{and_then}
use Rattle.dir_names.specs.Sorted.{rises, set_of}
use Rattle.dir_names.proofs.Both.{left, right}
use Rattle.dir_ldif.specs.declared.records.Mod.{Mod}
use Rattle.dir_ldif.specs.declared.records.ModOp.{ModOp}
use Rattle.dir_ldif.specs.declared.records.ModOp.TheVariants as op
use Rattle.dir_tree.specs.Content.{Stored, StoredAttributes}
use Rattle.dir_tree.specs.Slots.{with_slot}
use Rattle.dir_tree.specs.WellFormed.{Each}
use Rattle.dir_change.specs.Difference.{bytes_of, difference, difference_at, modification_if_any, slot_difference, values_missing_in}
use Rattle.dir_change.specs.Modify.{attributes_after, slot_after}
use Rattle.dir_change.specs.declared.result_code.ResultCode.{ResultCode}
use Rattle.dir_change.proofs.KeysInOrder.{among_append, first_apart, is_among, same_attr, set_among, set_rises}
use Rattle.dir_change.proofs.SlotBack.{IsSoundSlot, slot_after_all, slot_back}

pub attr_itself : (k : Attr) → eq_by_cmp attr_cmp k k ≡ true
attr_itself k = ap is_eq (tied_itself attr_cmp_total k)

-- ---- what is under one key

pub get_slot : (xs : StoredAttributes) (k : Attr) (slot : Option Stored) (q : Attr) → fin.get (with_slot xs k slot) q ≡ cond (eq_by_cmp attr_cmp q k) slot (fin.get xs q)
get_slot xs k None q = get-remove attr_cmp_total xs k q
get_slot xs k (Some a) q = get-insert attr_cmp_total xs k a q

pub same_attributes : (xs ys : StoredAttributes) → ((q : Attr) → fin.get xs q ≡ fin.get ys q) → xs ≡ ys
same_attributes xs ys h = same_map attr_cmp_total attr_cmp_exact xs ys h

pub slot_here : (xs : StoredAttributes) (k : Attr) (slot : Option Stored) → fin.get (with_slot xs k slot) k ≡ slot
slot_here xs k slot = get_slot xs k slot k ∙ ap (λ b. cond b slot (fin.get xs k)) (attr_itself k)

pub slot_again : (xs : StoredAttributes) (k : Attr) (s t : Option Stored) → with_slot (with_slot xs k s) k t ≡ with_slot xs k t
slot_again xs k s t = same_attributes _ _ (λ q.
    get_slot (with_slot xs k s) k t q ∙ ap (cond (eq_by_cmp attr_cmp q k) t) (get_slot xs k s q) ∙ shadowed (eq_by_cmp attr_cmp q k) (fin.get xs q) ∙ sym (get_slot xs k t q))
  where
    shadowed : (b : Bool) (x : Option Stored) → cond b t (cond b s x) ≡ cond b t x
    shadowed true x = refl
    shadowed false x = refl

pub slot_kept : (xs : StoredAttributes) (k : Attr) → with_slot xs k (fin.get xs k) ≡ xs
slot_kept xs k = same_attributes _ _ (λ q. get_slot xs k (fin.get xs k) q ∙ by q (eq_by_cmp attr_cmp q k) refl)
  where
    by : (q : Attr) (b : Bool) → eq_by_cmp attr_cmp q k ≡ b → cond b (fin.get xs k) (fin.get xs q) ≡ fin.get xs q
    by q false t = refl
    by q true t = ap (fin.get xs) (sym (same_attr q k t))

module _ (xs ys : StoredAttributes) where
  none_is : (o : Option Stored) → is_some o ≡ false → o ≡ None
  none_is None h = refl
  none_is (Some a) h = absurd (true≢false h)

  both_false : (a b : Bool) → (a || b) ≡ false → (a ≡ false) × (b ≡ false)
  both_false false false h = (refl, refl)
  both_false false true h = absurd (true≢false h)
  both_false true b h = absurd (true≢false h)

  -- a key of neither
  pub neither : (q : Attr) → is_among q (set_of attr_cmp (fin.keys xs ++ fin.keys ys)) ≡ false → (fin.get xs q ≡ None) × (fin.get ys q ≡ None)
  neither q h =
      let apart = both_false (is_among q (fin.keys xs)) (is_among q (fin.keys ys)) (sym (set_among q (fin.keys xs ++ fin.keys ys) ∙ among_append q (fin.keys xs) (fin.keys ys)) ∙ h) in
      (none_is (fin.get xs q) (contains_key-keys xs q ∙ apart.0), none_is (fin.get ys q) (contains_key-keys ys q ∙ apart.1))

module _ (rows : List TypeRow) where
  -- ---- modifications of one key

  abbrev pub AreOfKey : Attr → List Mod → Type 0
  AreOfKey k mods = Each (λ m. m.description.key ≡ k) mods

  after_one_key : (xs : StoredAttributes) (k : Attr) (mods : List Mod) → AreOfKey k mods → attributes_after rows xs mods ≡ and_then (slot_after_all rows (fin.get xs k) mods) (λ s. Ok (with_slot xs k s))
  after_one_key xs k [] h = ap Ok (sym (slot_kept xs k))
  after_one_key xs k (m ∷ ms) h =
      ap (λ q. and_then (and_then (slot_after rows m (fin.get xs q)) (λ slot. Ok (with_slot xs q slot))) (λ ys. attributes_after rows ys ms)) h.0
      ∙ by (slot_after rows m (fin.get xs k)) (λ s. after_one_key (with_slot xs k s) k ms h.1)
    where
      by : (r : Result (Option Stored) ResultCode) → ((s : Option Stored) → attributes_after rows (with_slot xs k s) ms ≡ and_then (slot_after_all rows (fin.get (with_slot xs k s) k) ms) (λ t. Ok (with_slot (with_slot xs k s) k t))) →
          and_then (and_then r (λ slot. Ok (with_slot xs k slot))) (λ ys. attributes_after rows ys ms) ≡ and_then (and_then r (λ s. slot_after_all rows s ms)) (λ s. Ok (with_slot xs k s))
      by (Err code) rest = refl
      by (Ok s) rest = rest s ∙ (λ i. and_then (slot_after_all rows (slot_here xs k s i) ms) (λ t. Ok (slot_again xs k s t i)))

  pub after_append : (xs : StoredAttributes) (ms ns : List Mod) → attributes_after rows xs (ms ++ ns) ≡ and_then (attributes_after rows xs ms) (λ ys. attributes_after rows ys ns)
  after_append xs [] ns = refl
  after_append xs (m ∷ ms) ns = by (and_then (slot_after rows m (fin.get xs m.description.key)) (λ slot. Ok (with_slot xs m.description.key slot))) (λ ys. after_append ys ms ns)
    where
      by : (r : Result StoredAttributes ResultCode) → ((ys : StoredAttributes) → attributes_after rows ys (ms ++ ns) ≡ and_then (attributes_after rows ys ms) (λ zs. attributes_after rows zs ns)) →
          and_then r (λ ys. attributes_after rows ys (ms ++ ns)) ≡ and_then (and_then r (λ ys. attributes_after rows ys ms)) (λ zs. attributes_after rows zs ns)
      by (Ok ys) rest = rest ys
      by (Err code) rest = refl

  if_any_of_key : (k : Attr) (spelling : List ℕ) (what : ModOp) (given : List (List ℕ)) → AreOfKey k (modification_if_any k spelling what given)
  if_any_of_key k spelling what [] = tt
  if_any_of_key k spelling what (p ∷ ps) = (refl, tt)

  of_key_append : (k : Attr) (ms ns : List Mod) → AreOfKey k ms → AreOfKey k ns → AreOfKey k (ms ++ ns)
  of_key_append k [] ns h g = g
  of_key_append k (m ∷ ms) ns h g = (h.0, of_key_append k ms ns h.1 g)

  pub difference_of_key : (k : Attr) (x y : Option Stored) → AreOfKey k (slot_difference k x y)
  difference_of_key k None None = tt
  difference_of_key k (Some a) None = (refl, tt)
  difference_of_key k None (Some b) = (refl, tt)
  difference_of_key k (Some a) (Some b) = by (bytes_eq a.spelling b.spelling)
    where
      by : (s : Bool) → AreOfKey k (cond s (modification_if_any k b.spelling op.Delete (bytes_of (values_missing_in a.values b.values)) ++ modification_if_any k b.spelling op.Add (bytes_of (values_missing_in b.values a.values))) (record { op = op.Replace; description = record { spelling = b.spelling; key = k }; values = map (λ p. p.1) (fin.entries b.values) } ∷ []))
      by true = of_key_append k _ _ (if_any_of_key k b.spelling op.Delete (bytes_of (values_missing_in a.values b.values))) (if_any_of_key k b.spelling op.Add (bytes_of (values_missing_in b.values a.values)))
      by false = (refl, tt)

  -- ---- one key after the other

  abbrev pub AreSoundSlots : StoredAttributes → Type 0
  AreSoundSlots xs = (k : Attr) → IsSoundSlot rows k (fin.get xs k)

  module _ (xs ys : StoredAttributes) (sound_x : AreSoundSlots xs) (sound_y : AreSoundSlots ys) where
    abbrev LeadsOver : List Attr → StoredAttributes → Type 0
    LeadsOver ks zs = (ws : StoredAttributes) × (attributes_after rows zs (difference_at ks xs ys) ≡ Ok ws) × ((q : Attr) → fin.get ws q ≡ cond (is_among q ks) (fin.get ys q) (fin.get zs q))

    one_key : (zs : StoredAttributes) (k : Attr) → fin.get zs k ≡ fin.get xs k → attributes_after rows zs (slot_difference k (fin.get xs k) (fin.get ys k)) ≡ Ok (with_slot zs k (fin.get ys k))
    one_key zs k same =
        after_one_key zs k (slot_difference k (fin.get xs k) (fin.get ys k)) (difference_of_key k (fin.get xs k) (fin.get ys k))
        ∙ ap (λ s. and_then (slot_after_all rows s (slot_difference k (fin.get xs k) (fin.get ys k))) (λ s. Ok (with_slot zs k s))) same
        ∙ ap (λ r. and_then r (λ s. Ok (with_slot zs k s))) (slot_back rows k (fin.get xs k) (fin.get ys k) (sound_x k) (sound_y k))

    leads_over : (ks : List Attr) → rises attr_cmp ks ≡ true → (zs : StoredAttributes) → ((k : Attr) → is_among k ks ≡ true → fin.get zs k ≡ fin.get xs k) → LeadsOver ks zs
    leads_over [] t zs same = (zs, refl, λ q. refl)
    leads_over (k ∷ ks) t zs same =
        let here = same k (ap (λ b. b || is_among k ks) (attr_itself k)) in
        let rest = leads_over ks (right (list_all (λ x. is_lt (attr_cmp k x)) ks) (rises attr_cmp ks) t) (with_slot zs k (fin.get ys k)) later in (
          rest.0,
          after_append zs (slot_difference k (fin.get xs k) (fin.get ys k)) (difference_at ks xs ys)
              ∙ ap (λ r. and_then r (λ us. attributes_after rows us (difference_at ks xs ys))) (one_key zs k here)
              ∙ rest.1,
          λ q. rest.2 q ∙ ap (cond (is_among q ks) (fin.get ys q)) (get_slot zs k (fin.get ys k) q) ∙ joined q (eq_by_cmp attr_cmp q k) refl (is_among q ks),
        )
      where
        joined : (q : Attr) (a : Bool) → eq_by_cmp attr_cmp q k ≡ a → (b : Bool) → cond b (fin.get ys q) (cond a (fin.get ys k) (fin.get zs q)) ≡ cond (a || b) (fin.get ys q) (fin.get zs q)
        joined q true e true = refl
        joined q true e false = ap (fin.get ys) (sym (same_attr q k e))
        joined q false e true = refl
        joined q false e false = refl

        or_true : (a b : Bool) → b ≡ true → (a || b) ≡ true
        or_true true b h = refl
        or_true false b h = h

        later : (q : Attr) → is_among q ks ≡ true → fin.get (with_slot zs k (fin.get ys k)) q ≡ fin.get xs q
        later q there = get_slot zs k (fin.get ys k) q ∙ by (eq_by_cmp attr_cmp q k) refl
          where
            by : (b : Bool) → eq_by_cmp attr_cmp q k ≡ b → cond b (fin.get ys k) (fin.get zs q) ≡ fin.get xs q
            by false e = same q (or_true (eq_by_cmp attr_cmp q k) (is_among q ks) there)
            by true e = absurd (true≢false (sym there ∙ ap (λ z. is_among z ks) (same_attr q k e) ∙ first_apart k ks (left (list_all (λ x. is_lt (attr_cmp k x)) ks) (rises attr_cmp ks) t)))

    pub difference_leads : attributes_after rows xs (difference xs ys) ≡ Ok ys
    difference_leads =
        let found = leads_over (set_of attr_cmp (fin.keys xs ++ fin.keys ys)) (set_rises (fin.keys xs ++ fin.keys ys)) xs (λ k there. refl) in
        found.1 ∙ ap Ok (same_attributes found.0 ys (λ q. found.2 q ∙ by q (is_among q (set_of attr_cmp (fin.keys xs ++ fin.keys ys))) refl))
      where
        by : (q : Attr) (b : Bool) → is_among q (set_of attr_cmp (fin.keys xs ++ fin.keys ys)) ≡ b → cond b (fin.get ys q) (fin.get xs q) ≡ fin.get ys q
        by q true t = refl
        by q false t = let none = neither xs ys q t in none.0 ∙ sym none.1
