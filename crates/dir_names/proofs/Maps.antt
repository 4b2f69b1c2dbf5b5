-- Maps held in a `BTreeMap` or in a sorted `Vec`, seen as finite maps (`Rattle.std.specs.FinMap`), at any total order in which only equal keys tie.
--     get_entries, one_put, one_gone      a `BTreeMap`, by what `get`, `insert` and `remove` say of its entries; its view is `from_entries m.entries`
--     entries_from_ordered                the entries of such a map, in order
--     got_ok, got_err, put_ok, put_err, gone_ok, gone_err      a `Vec` of items, each the `pair` of a key and a value, at a place that `place` gives; its view is `from_sorted (map pair items)`
--     sorted_put_ok, sorted_put_err, sorted_gone               and that it stays in order
use Rattle.std.proofs.Common.{◌≡◌, ℕ, zero, suc, ◌<◌, Bool, true, false, cond, not, T, List, [], ◌∷◌, map, length, get_or, set, Some, None, Result, Ok, Err, refl, sym, ap, subst, ◌∙◌, arith}
use Rattle.std.specs.declared.cmp.Ordering.{Ordering}
use Rattle.std.specs.declared.cmp.Ordering.TheVariants.{Less, Equal, Greater}
use Rattle.std.specs.Ordering.{is_eq, is_lt, match_ordering, eq_by_cmp}
use Rattle.std.specs.Cmp.{IsTotalOrder, eq_by_cmp_equiv, alike_right}
use Rattle.std.specs.List.{list_all, insert, remove, AllByRecursion}
use Rattle.std.specs.List.Sorted.{IsStrictlySortedBy}
use Rattle.std.specs.Map.{lookup}
use Rattle.std.specs.BTreeMap.{is_at, insert_entry}
use Rattle.std.specs.FinMap as map_of
use Rattle.std.specs.FinMap.{FinMap, IsAntisymmetric, find, put, entries, from_entries, from_sorted, get-from_entries, get-insert, get-remove, get-from_sorted, same_map, entries-from_sorted, entries-insert, same_entries_map}
use Rattle.std.specs.FinMap.Entries.{find-put, find-where_key, by_order}
use Rattle.std.proofs.lemmas.List.{get_or-map}
use Rattle.dir_names.specs.Sorted.{later, rises, place}
use Rattle.dir_names.proofs.Placed.{both, keys_of, value_at, put_at, gone_at, is_sorted-keys, put-place, find-place, gone-place, rises-put_at, rises-gone_at}

module _ {K : Type 0} (R : K → K → Ordering) where
  head_first : (k : K) (ks : List K) → AllByRecursion (λ y. R k y ≡ Less) ks → T (list_all (λ x. is_lt (R k x)) ks)
  head_first k [] h = tt
  head_first k (y ∷ ys) h = both _ _ (subst (λ r. T (is_lt r)) (sym h.0) tt) (head_first k ys h.1)

  -- the clause `ordered` of a `BTreeMap`
  pub rises_from_ordered : (ks : List K) → IsStrictlySortedBy R ks → T (rises R ks)
  unfolding IsStrictlySortedBy
  rises_from_ordered [] h = tt
  rises_from_ordered (k ∷ ks) h = both _ _ (head_first k ks h.0) (rises_from_ordered ks h.1)

module _ {K X : Type 0} {R : K → K → Ordering} (o : IsTotalOrder R) where
  pub lookup_find : (q : K) (es : List (K × X)) → lookup (is_at (R q)) es ≡ find R q es
  lookup_find q [] = refl
  lookup_find q (e ∷ es) = ap (cond (is_eq (R q e.0)) (Some e.1)) (lookup_find q es)

  -- what a look-up in the entries gives
  pub get_entries : (es : List (K × X)) (q : K) → lookup (is_at (R q)) es ≡ map_of.get (from_entries {R = R} es) q
  get_entries es q = lookup_find q es ∙ sym (get-from_entries o es q)

  insert_put : (k : K) (v : X) (es : List (K × X)) → insert_entry R es k v ≡ put R k v es
  insert_put k v [] = refl
  insert_put k v (e ∷ es) =
      elim (R k e.0) as (λ r. match_ordering r ((k, v) ∷ e ∷ es) ((e.0, v) ∷ es) (e ∷ insert_entry R es k v) ≡ by_order r ((k, v) ∷ e ∷ es) ((e.0, v) ∷ es) (e ∷ put R k v es)) [
        | Less ↦ refl
        | Equal ↦ refl
        | Greater ↦ ap (λ z. e ∷ z) (insert_put k v es)
      ]

  -- the clause `entries` of `insert`
  pub one_put : IsAntisymmetric R → (es : List (K × X)) (k : K) (v : X) → from_entries {R = R} (insert_entry R es k v) ≡ map_of.insert (from_entries es) k v
  one_put same es k v = same_map o same _ _ (λ q.
      get-from_entries o _ q ∙ ap (find R q) (insert_put k v es) ∙ find-put R o q k v es
      ∙ ap (cond (eq_by_cmp R q k) (Some v)) (sym (get-from_entries o es q)) ∙ sym (get-insert o (from_entries es) k v q))

  -- the clause `updates` of `remove`
  pub one_gone : IsAntisymmetric R → (old new : List (K × X)) (k : K) → ((q : K) → lookup (is_at (R q)) new ≡ cond (is_at (R k) q) None (lookup (is_at (R q)) old)) → from_entries {R = R} new ≡ map_of.remove (from_entries old) k
  one_gone same old new k updates = same_map o same _ _ (λ q.
      sym (get_entries new q) ∙ updates q ∙ (λ i. cond ((eq_by_cmp_equiv o).symm k q i) None (get_entries old q i)) ∙ sym (get-remove o (from_entries old) k q))

  -- the two ways to make a map of entries in order agree
  pub sorted_entries : IsAntisymmetric R → (es : List (K × X)) → T (rises R (keys_of R es)) → from_entries {R = R} es ≡ from_sorted es
  sorted_entries same es t = same_map o same _ _ (λ q. get-from_entries o es q ∙ sym (get-from_sorted R es q (subst T (sym (is_sorted-keys R es)) t)))

  pub entries_from_ordered : IsAntisymmetric R → (es : List (K × X)) → IsStrictlySortedBy R (keys_of R es) → entries (from_entries {R = R} es) ≡ es
  entries_from_ordered same es h =
      let t = rises_from_ordered R (keys_of R es) h in
      ap entries (sorted_entries same es t) ∙ entries-from_sorted R es (subst T (sym (is_sorted-keys R es)) t)

  -- ---- entries in order, at a place

  pub get_place : (es : List (K × X)) (k : K) (d : K × X) → T (rises R (keys_of R es)) → map_of.get (from_sorted {R = R} es) k ≡ value_at R (place R k (keys_of R es)) es d
  get_place es k d t = get-from_sorted R es k (subst T (sym (is_sorted-keys R es)) t) ∙ find-place R o k es d t

  pub insert_place : (es : List (K × X)) (k : K) (v : X) → T (rises R (keys_of R es)) → map_of.insert (from_sorted {R = R} es) k v ≡ from_sorted (put_at R (place R k (keys_of R es)) k v es)
  insert_place es k v t =
      let sorted = subst T (sym (is_sorted-keys R es)) t in
      let after = subst T (sym (is_sorted-keys R _)) (rises-put_at R o k v es t) in
      same_entries_map _ _ (entries-insert o (from_sorted es) k v ∙ ap (put R k v) (entries-from_sorted R es sorted) ∙ put-place R k v es ∙ sym (entries-from_sorted R _ after))

  pub remove_place : IsAntisymmetric R → (es : List (K × X)) (k : K) → T (rises R (keys_of R es)) → map_of.remove (from_sorted {R = R} es) k ≡ from_sorted (gone_at R (place R k (keys_of R es)) es)
  remove_place same es k t =
      let sorted = subst T (sym (is_sorted-keys R es)) t in
      let after = subst T (sym (is_sorted-keys R _)) (rises-gone_at R o k es t) in
      same_map o same _ _ (λ q.
      get-remove o (from_sorted es) k q ∙ ap (cond (eq_by_cmp R q k) None) (get-from_sorted R es q sorted)
      ∙ sym (get-from_sorted R _ q after ∙ ap (find R q) (sym (gone-place R o k es t))
      ∙ find-where_key R (λ x. not (eq_by_cmp R k x)) q (λ x e. ap (λ r. not (is_eq r)) (sym (alike_right o q x k e))) es
      ∙ turned (eq_by_cmp R k q) (find R q es) None ∙ ap (λ b. cond b None (find R q es)) ((eq_by_cmp_equiv o).symm k q)))
    where
      turned : {A : Type 0} (b : Bool) (x y : A) → cond (not b) x y ≡ cond b y x
      turned true x y = refl
      turned false x y = refl

-- ---- items in order, each the pair of a key and a value

module _ {I K X : Type 0} {R : K → K → Ordering} (o : IsTotalOrder R) (pair : I → K × X) where
  abbrev pub item_keys : List I → List K
  item_keys items = map (λ item. (pair item).0) items

  abbrev pub view : List I → FinMap R X
  view items = from_sorted (map pair items)

  keys_map : (items : List I) → keys_of R (map pair items) ≡ item_keys items
  keys_map [] = refl
  keys_map (item ∷ items) = ap (λ z. (pair item).0 ∷ z) (keys_map items)

  map_insert : (items : List I) (i : ℕ) (item : I) → map pair (insert items i item) ≡ insert (map pair items) i (pair item)
  map_insert items zero item = refl
  map_insert [] (suc i) item = refl
  map_insert (x ∷ xs) (suc i) item = ap (λ z. pair x ∷ z) (map_insert xs i item)

  map_remove : (items : List I) (i : ℕ) → map pair (remove items i) ≡ remove (map pair items) i
  map_remove [] zero = refl
  map_remove [] (suc i) = refl
  map_remove (x ∷ xs) zero = refl
  map_remove (x ∷ xs) (suc i) = ap (λ z. pair x ∷ z) (map_remove xs i)

  map_set : (items : List I) (i : ℕ) (item : I) → map pair (set items i item) ≡ set (map pair items) i (pair item)
  map_set [] i item = refl
  map_set (x ∷ xs) zero item = refl
  map_set (x ∷ xs) (suc i) item = ap (λ z. pair x ∷ z) (map_set xs i item)

  place_within : (k : K) (items : List I) (i : ℕ) → place R k (item_keys items) ≡ Ok i → i < length items
  place_within k [] i e = absurd (cc)
  place_within k (x ∷ xs) i e = by (λ n. place_within k xs n) (R k (pair x).0) (place R k (item_keys xs)) refl i e
    where
      by : ((n : ℕ) → place R k (item_keys xs) ≡ Ok n → n < length xs) → (r : Ordering) (p : Result ℕ ℕ) → place R k (item_keys xs) ≡ p → (j : ℕ) → match_ordering r (Err 0) (Ok 0) (later p) ≡ Ok j → j < suc (length xs)
      by rest Less p q j h = absurd (cc)
      by rest Equal p q j h = let z : 0 ≡ j = cc in omega arith
      by rest Greater (Ok n) q j h = let z : suc n ≡ j = cc in let l = rest n q in omega arith
      by rest Greater (Err n) q j h = absurd (cc)

  module _ (items : List I) (in_order : T (rises R (item_keys items))) (k : K) where
    rises_map : T (rises R (keys_of R (map pair items)))
    rises_map = subst T (sym (ap (rises R) (keys_map items))) in_order

    at_keys : (r : Result ℕ ℕ) → place R k (item_keys items) ≡ r → place R k (keys_of R (map pair items)) ≡ r
    at_keys r e = ap (place R k) (keys_map items) ∙ e

    pub got_ok : (i : ℕ) (d : I) → place R k (item_keys items) ≡ Ok i → map_of.get (view items) k ≡ Some (pair (get_or items i d)).1
    got_ok i d e =
        get_place o (map pair items) k (pair d) rises_map ∙ ap (λ r. value_at R r (map pair items) (pair d)) (at_keys _ e)
        ∙ ap (λ p. Some p.1) (get_or-map pair items i d (pair d) (place_within k items i e))

    pub got_err : (i : ℕ) → place R k (item_keys items) ≡ Err i → (d : K × X) → map_of.get (view items) k ≡ None
    got_err i e d = get_place o (map pair items) k d rises_map ∙ ap (λ r. value_at R r (map pair items) d) (at_keys _ e)

    -- a new item at its place
    pub put_err : (i : ℕ) (item : I) → place R k (item_keys items) ≡ Err i → (pair item).0 ≡ k → map_of.insert (view items) k (pair item).1 ≡ view (insert items i item)
    put_err i item e same =
        insert_place o (map pair items) k (pair item).1 rises_map ∙ ap (λ r. from_sorted (put_at R r k (pair item).1 (map pair items))) (at_keys _ e)
        ∙ ap (λ q. from_sorted (insert (map pair items) i (q, (pair item).1))) (sym same) ∙ ap from_sorted (sym (map_insert items i item))

    -- an item with the key that is there, and a new value
    pub put_ok : (i : ℕ) (item : I) → place R k (item_keys items) ≡ Ok i → (pair item).0 ≡ (pair (get_or items i item)).0 → map_of.insert (view items) k (pair item).1 ≡ view (set items i item)
    put_ok i item e same =
        insert_place o (map pair items) k (pair item).1 rises_map ∙ ap (λ r. from_sorted (put_at R r k (pair item).1 (map pair items))) (at_keys _ e)
        ∙ ap (λ p. from_sorted (set (map pair items) i (p.0, (pair item).1))) (get_or-map pair items i item (k, (pair item).1) (place_within k items i e))
        ∙ ap (λ q. from_sorted (set (map pair items) i (q, (pair item).1))) (sym same) ∙ ap from_sorted (sym (map_set items i item))

    pub gone_ok : IsAntisymmetric R → (i : ℕ) → place R k (item_keys items) ≡ Ok i → map_of.remove (view items) k ≡ view (remove items i)
    gone_ok exact i e =
        remove_place o exact (map pair items) k rises_map ∙ ap (λ r. from_sorted (gone_at R r (map pair items))) (at_keys _ e) ∙ ap from_sorted (sym (map_remove items i))

    pub gone_err : IsAntisymmetric R → (i : ℕ) → place R k (item_keys items) ≡ Err i → map_of.remove (view items) k ≡ view items
    gone_err exact i e = remove_place o exact (map pair items) k rises_map ∙ ap (λ r. from_sorted (gone_at R r (map pair items))) (at_keys _ e)

    pub sorted_put_err : (i : ℕ) (item : I) → place R k (item_keys items) ≡ Err i → (pair item).0 ≡ k → T (rises R (item_keys (insert items i item)))
    sorted_put_err i item e same =
        subst (λ ks. T (rises R ks)) (
        ap (λ r. keys_of R (put_at R r k (pair item).1 (map pair items))) (at_keys _ e)
        ∙ ap (λ q. keys_of R (insert (map pair items) i (q, (pair item).1))) (sym same)
        ∙ ap (keys_of R) (sym (map_insert items i item)) ∙ keys_map (insert items i item))
        (rises-put_at R o k (pair item).1 (map pair items) rises_map)

    pub sorted_put_ok : (i : ℕ) (item : I) → place R k (item_keys items) ≡ Ok i → (pair item).0 ≡ (pair (get_or items i item)).0 → T (rises R (item_keys (set items i item)))
    sorted_put_ok i item e same =
        subst (λ ks. T (rises R ks)) (
        ap (λ r. keys_of R (put_at R r k (pair item).1 (map pair items))) (at_keys _ e)
        ∙ ap (λ p. keys_of R (set (map pair items) i (p.0, (pair item).1))) (get_or-map pair items i item (k, (pair item).1) (place_within k items i e))
        ∙ ap (λ q. keys_of R (set (map pair items) i (q, (pair item).1))) (sym same)
        ∙ ap (keys_of R) (sym (map_set items i item)) ∙ keys_map (set items i item))
        (rises-put_at R o k (pair item).1 (map pair items) rises_map)

    pub sorted_gone : (i : ℕ) → place R k (item_keys items) ≡ Ok i → T (rises R (item_keys (remove items i)))
    sorted_gone i e =
        subst (λ ks. T (rises R ks)) (
        ap (λ r. keys_of R (gone_at R r (map pair items))) (at_keys _ e)
        ∙ ap (keys_of R) (sym (map_remove items i)) ∙ keys_map (remove items i))
        (rises-gone_at R o k (map pair items) rises_map)
