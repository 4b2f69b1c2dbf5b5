-- The difference of two entries' attributes is that of their parts under the keys at which they can differ.
use Rattle.std.proofs.Common.{◌≡◌, ℕ, Bool, true, false, cond, not, ◌||◌, List, [], ◌∷◌, ◌++◌, Option, Some, None, refl, sym, ap, ◌∙◌, true≢false}
use Rattle.std.specs.List.{filter, flat_map}
use Rattle.std.specs.FinMap as fin
use Rattle.std.specs.Ordering.{eq_by_cmp}
use Rattle.dir_names.specs.declared.schema.TypeRow.{TypeRow}
use Rattle.dir_names.specs.Attr.{Attr}
use Rattle.dir_names.specs.Keys.{RdnKeys}
use Rattle.dir_names.specs.Names.{SpelledRdn}
use Rattle.dir_names.specs.NameKeys.{rdn_key}
use Rattle.dir_names.specs.Orders.{attr_cmp, attr_cmp_ties, attr_eq, attr_eq_decides, bytes_eq_decides}
use Rattle.dir_names.specs.Sorted.{rises, set_of}
use Rattle.dir_names.specs.Values.{value_key_cmp}
use Rattle.dir_ldif.specs.declared.records.Mod.{Mod}
use Rattle.dir_ldif.specs.declared.records.ModOp.TheVariants as op
use Rattle.dir_tree.specs.Content.{Stored, StoredAttributes, StoredValues}
use Rattle.dir_tree.proofs.GainedValues.{alike}
use Rattle.dir_tree.proofs.SoundMade.{entries_of_none}
use Rattle.dir_change.specs.Difference.{bytes_of, difference, difference_at, has_exactly, modification, modification_if_any, slot_difference, values_missing_in}
use Rattle.dir_change.specs.Inside.Touched.{AreSameApartFrom, IsPartAt, has_type, types_of}
use Rattle.dir_change.specs.Rename.{renamed_attributes}
use Rattle.dir_change.proofs.AttributesBack.{attr_itself, neither}
use Rattle.dir_change.proofs.KeysInOrder.{among_append, is_among, same_listed, set_among, set_rises}
use Rattle.dir_change.proofs.PartDifference.{same_missing}
use Rattle.dir_change.proofs.RenamedEntry.{renamed_apart}
use Rattle.dir_change.proofs.RenamedSlots.{renamed_alike}
use Rattle.dir_change.proofs.SlotBack.{if_differs}

-- ---- an attribute and itself

none_missing : (x : StoredValues) → values_missing_in x x ≡ []
none_missing x =
    same_missing x x fin.empty fin.empty (λ v. none x (fin.get x v) ∙ sym (none fin.empty (fin.get (fin.empty {K = _} {X = _} {R = value_key_cmp}) v)))
    ∙ ap (filter (λ p. not (has_exactly fin.empty p))) (entries_of_none value_key_cmp)
  where
    none : (y : StoredValues) (o : Option (List ℕ)) → if_differs y y o o ≡ None
    none y None = refl
    none y (Some bytes) = ap (λ c. cond (not c) (Some bytes) None) ((bytes_eq_decides bytes bytes).1 refl)

slot_itself : (k : Attr) (slot : Option Stored) → slot_difference k slot slot ≡ []
slot_itself k None = refl
slot_itself k (Some a) =
    ap (λ c. cond c (modification_if_any k a.spelling op.Delete (bytes_of (values_missing_in a.values a.values)) ++ modification_if_any k a.spelling op.Add (bytes_of (values_missing_in a.values a.values))) (modification k a.spelling op.Replace (bytes_of (fin.entries a.values)) ∷ []))
    ((bytes_eq_decides a.spelling a.spelling).1 refl)
    ∙ (λ i. modification_if_any k a.spelling op.Delete (bytes_of (none_missing a.values i)) ++ modification_if_any k a.spelling op.Add (bytes_of (none_missing a.values i)))

-- ---- all attributes

or_true : (b : Bool) → (b || true) ≡ true
or_true true = refl
or_true false = refl

-- lists for each of some keys are the same where they are for each key
each_same : (f g : Attr → List Mod) (ks : List Attr) → ((k : Attr) → is_among k ks ≡ true → f k ≡ g k) → flat_map f ks ≡ flat_map g ks
each_same f g [] h = refl
each_same f g (k ∷ ks) h = λ i. h k (ap (λ b. b || is_among k ks) (attr_itself k)) i ++ each_same f g ks (λ q t. h q (ap (λ b. eq_by_cmp attr_cmp q k || b) t ∙ or_true (eq_by_cmp attr_cmp q k))) i

module _ (xs ys fs gs : StoredAttributes) (keys : List Attr) (rise : rises attr_cmp keys ≡ true)
    (first : (q : Attr) → is_among q keys ≡ true → fin.get fs q ≡ fin.get xs q) (second : (q : Attr) → is_among q keys ≡ true → fin.get gs q ≡ fin.get ys q)
    (outside : (q : Attr) → is_among q keys ≡ false → fin.get xs q ≡ fin.get ys q) where
  abbrev listed : Attr → List Mod
  listed k = slot_difference k (fin.get xs k) (fin.get ys k)

  abbrev all : List Attr
  all = set_of attr_cmp (fin.keys xs ++ fin.keys ys)

  in_both : (k : Attr) → (listed k ≡ [] → ⊥) → is_among k keys ≡ is_among k all
  in_both k some = by (is_among k keys) refl (is_among k all) refl
    where
      by : (b : Bool) → is_among k keys ≡ b → (c : Bool) → is_among k all ≡ c → b ≡ c
      by true t true u = refl
      by false t false u = refl
      by true t false u = let none = neither xs ys k u in absurd (some (λ i. slot_difference k (none.0 i) (none.1 i)))
      by false t true u = absurd (some (ap (λ slot. slot_difference k slot (fin.get ys k)) (outside k t) ∙ slot_itself k (fin.get ys k)))

  pub difference_of_parts : difference_at keys fs gs ≡ difference xs ys
  difference_of_parts =
      each_same (λ k. slot_difference k (fin.get fs k) (fin.get gs k)) listed keys (λ k t i. slot_difference k (first k t i) (second k t i))
      ∙ same_listed listed keys all rise (set_rises (fin.keys xs ++ fin.keys ys)) in_both

-- ---- what a rename back leaves

turned : (p q : Attr) → eq_by_cmp attr_cmp q p ≡ attr_eq p q
turned p q = sym (attr_cmp_ties q p) ∙ alike (attr_eq q p) (attr_eq p q) (λ e. (attr_eq_decides p q).1 (sym ((attr_eq_decides q p).0 e))) (λ e. (attr_eq_decides q p).1 (sym ((attr_eq_decides p q).0 e)))

pub among_types : (q : Attr) (rdn : RdnKeys) → is_among q (types_of rdn) ≡ has_type rdn q
among_types q [] = refl
among_types q (p ∷ ps) = λ i. turned p.0 q i || among_types q ps i

pub none_or : (a b : Bool) → (a || b) ≡ false → (a ≡ false) × (b ≡ false)
none_or false false h = (refl, refl)
none_or false true h = absurd (true≢false h)
none_or true b h = absurd (true≢false h)

module _ (rows : List TypeRow) (xs ys fs gs : StoredAttributes) (old : RdnKeys) (leaf : SpelledRdn) (new own : RdnKeys) (named : rdn_key rows leaf ≡ Some new)
    (stays : AreSameApartFrom own old xs ys) (keys : List Attr) (are : keys ≡ set_of attr_cmp (types_of new ++ types_of old ++ types_of own))
    (first : IsPartAt keys xs fs) (second : IsPartAt keys ys gs) where
  -- a key at which nothing is touched is a type of no RDN
  no_types : (q : Attr) → is_among q keys ≡ false → (has_type new q ≡ false) × ((has_type old q ≡ false) × (has_type own q ≡ false))
  no_types q t =
      let apart = none_or (has_type new q || has_type old q) (has_type own q) (sym types ∙ t) in
      let two = none_or (has_type new q) (has_type old q) apart.0 in
      (two.0, (two.1, apart.1))
    where
      types : is_among q keys ≡ ((has_type new q || has_type old q) || has_type own q)
      types =
          ap (is_among q) are
          ∙ set_among q (types_of new ++ types_of old ++ types_of own)
          ∙ among_append q (types_of new ++ types_of old) (types_of own)
          ∙ ap (λ b. b || is_among q (types_of own)) (among_append q (types_of new) (types_of old))
          ∙ (λ i. (among_types q new i || among_types q old i) || among_types q own i)

  pub left_of_parts : difference_at keys (renamed_attributes rows fs old leaf new true) gs ≡ difference (renamed_attributes rows xs old leaf new true) ys
  left_of_parts = difference_of_parts (renamed_attributes rows xs old leaf new true) ys (renamed_attributes rows fs old leaf new true) gs keys
      (ap (rises attr_cmp) are ∙ set_rises (types_of new ++ types_of old ++ types_of own))
      (λ q t. renamed_alike q rows old leaf new true fs xs (first q ∙ ap (λ b. cond b (fin.get xs q) None) t))
      (λ q t. second q ∙ ap (λ b. cond b (fin.get ys q) None) t)
      (λ q t. let apart = no_types q t in renamed_apart rows xs old leaf new named true q apart.1.0 apart.0 ∙ stays q apart.1.1 apart.1.0)
