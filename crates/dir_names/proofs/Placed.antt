-- What is at a key's place in a list in rising order: the lemmas for a set or a map in a sorted `Vec`.
--     place_from_search      what `binary_search_by` says, as `place`
--     find-place, put-place, gone-place      the entries of a map: what is found, and what a write and a removal leave
--     member-place           the members of a set
use Rattle.std.proofs.Common.{◌≡◌, ℕ, zero, suc, ◌<◌, ◌≤◌, Bool, true, false, cond, not, T, ◌&&◌, List, [], ◌∷◌, map, length, get_or, set, Option, Some, None, Result, Ok, Err, refl, sym, ap, subst, ◌∙◌, arith}
use Rattle.std.specs.declared.cmp.Ordering.{Ordering}
use Rattle.std.specs.declared.cmp.Ordering.TheVariants.{Less, Equal, Greater}
use Rattle.std.specs.Ordering.{is_lt, is_eq, match_ordering, eq_by_cmp, ordering_reverse, ordering_index}
use Rattle.std.specs.Cmp.{IsTotalOrder, alike_right, tied_back}
use Rattle.std.specs.List.{list_all, HoldsAt, insert, remove}
use Rattle.std.specs.List.Sorted.{IsBinarySearchResult, IsSearchInRange, IsPartitionPoint, IsNonDecreasingBy}
use Rattle.std.proofs.lemmas.List.{get_or-map, length-map, map-id}
use Rattle.std.specs.FinMap.{find, put, is_sorted}
use Rattle.std.specs.FinMap.Entries.{where_key, is_sorted-put, is_sorted-where_key, below_all, by_order}
use Rattle.dir_names.specs.Sorted.{later, rises, place, with_member}

pub so : (b : Bool) → b ≡ true → T b
so b e = subst T (sym e) tt

pub both : (a b : Bool) → T a → T b → T (a && b)
both true b p q = q
both false b p q = p

pub first : (a b : Bool) → T (a && b) → T a
first true b p = tt
first false b p = p

pub second : (a b : Bool) → T (a && b) → T b
second true b p = p
second false b p = absurd p

less : (o : Ordering) → T (is_lt o) → o ≡ Less
less Less p = refl
less Equal p = absurd p
less Greater p = absurd p

-- what passes the test all along passes it at an index
all_at : {K : Type 0} (p : K → Bool) (ks : List K) (i : ℕ) (d : K) → i < length ks → T (list_all p ks) → T (p (get_or ks i d))
all_at p [] i d h t = absurd (omega arith)
all_at p (k ∷ ks) zero d h t = first (p k) _ t
all_at p (k ∷ ks) (suc i) d h t = all_at p ks i d (omega arith) (second (p k) _ t)

module _ {K : Type 0} {R : K → K → Ordering} (o : IsTotalOrder R) where
  turned : (x y : K) (r : Ordering) → R x y ≡ r → R y x ≡ ordering_reverse r
  turned x y r e = o.antisymm y x ∙ ap ordering_reverse e

  -- the head is below each later key
  head_below : (k : K) (ks : List K) (i : ℕ) (d : K) → i < length ks → T (rises R (k ∷ ks)) → R k (get_or ks i d) ≡ Less
  head_below k ks i d h t = less _ (all_at (λ x. is_lt (R k x)) ks i d h (first _ _ t))

  index_le : (x y k : K) → R x y ≡ Less → (r : Ordering) → R y k ≡ r → ordering_index (R x k) ≤ ordering_index (R y k)
  index_le x y k l Less e = let f : R x k ≡ Less = o.trans x y k l e in rw (f, e) (omega arith)
  index_le x y k l Equal e = let f : R x k ≡ Less = sym (alike_right o y k x e) ∙ l in rw (f, e) (omega arith)
  index_le x y k l Greater e = rw e (at_most (R x k))
    where
      at_most : (s : Ordering) → ordering_index s ≤ 2
      at_most Less = omega arith
      at_most Equal = omega arith
      at_most Greater = omega arith

  below_rest : (k x : K) → R k x ≡ Less → (ks : List K) → T (list_all (λ z. is_lt (R x z)) ks) → T (list_all (λ z. is_lt (R k z)) ks)
  below_rest k x l [] t = tt
  below_rest k x l (y ∷ ys) t = both _ _ (subst (λ s. T (is_lt s)) (sym (o.trans k x y l (less _ (first _ _ t)))) tt) (below_rest k x l ys (second _ _ t))

  tied_below : (k x : K) → R k x ≡ Equal → (ks : List K) → T (list_all (λ y. is_lt (R x y)) ks) → T (list_all (λ y. is_lt (R k y)) ks)
  tied_below k x e [] t = tt
  tied_below k x e (y ∷ ys) t = both _ _ (subst (λ s. T (is_lt s)) (sym (o.congr k x y e)) (first _ _ t)) (tied_below k x e ys (second _ _ t))

  module _ {X : Type 0} (key : X → K) (k : K) where
    rising : (xs : List X) → T (rises R (map key xs)) → IsNonDecreasingBy (λ y. ordering_index (R (key y) k)) xs
    rising [] t i j d h g = absurd (omega arith)
    rising (x ∷ xs) t zero zero d h g = omega arith
    rising (x ∷ xs) t zero (suc j) d h g =
        let inside : j < length (map key xs) = omega (arith, length-map xs key) in
        index_le (key x) (key (get_or xs j d)) k (subst (λ z. R (key x) z ≡ Less) (get_or-map key xs j d (key d) (omega arith)) (head_below (key x) (map key xs) j (key d) inside t)) _ refl
    rising (x ∷ xs) t (suc i) zero d h g = absurd (omega arith)
    rising (x ∷ xs) t (suc i) (suc j) d h g = rising xs (second _ _ t) i j d (omega arith) (omega arith)

    at_head : (r : Ordering) (x : K) (xs : List K) → R k x ≡ r → place R k (x ∷ xs) ≡ match_ordering r (Err 0) (Ok 0) (later (place R k xs))
    at_head r x xs e = ap (λ s. match_ordering s (Err 0) (Ok 0) (later (place R k xs))) e

    place_ok : (xs : List X) (i : ℕ) → T (rises R (map key xs)) → i < length xs → HoldsAt (λ y. R (key y) k ≡ Equal) xs i → place R k (map key xs) ≡ Ok i
    place_ok [] i t h e = absurd (omega arith)
    place_ok (x ∷ xs) zero t h e = at_head Equal (key x) (map key xs) (tied_back o (key x) k (e x))
    place_ok (x ∷ xs) (suc i) t h e =
        let inside : i < length (map key xs) = omega (arith, length-map xs key) in
        let there : R (key x) (key (get_or xs i x)) ≡ Less = subst (λ z. R (key x) z ≡ Less) (get_or-map key xs i x (key x) (omega arith)) (head_below (key x) (map key xs) i (key x) inside t) in
        let here : R (key x) k ≡ Less = sym (alike_right o (key (get_or xs i x)) k (key x) (e x)) ∙ there in
        at_head Greater (key x) (map key xs) (turned (key x) k Less here) ∙ ap later (place_ok xs i (second _ _ t) (omega arith) e)

    place_err : (xs : List X) (i : ℕ) → i ≤ length xs → IsPartitionPoint (λ y. R (key y) k ≡ Less) (λ y. R (key y) k ≡ Greater) xs i → place R k (map key xs) ≡ Err i
    place_err [] zero h p = refl
    place_err [] (suc i) h p = absurd (omega arith)
    place_err (x ∷ xs) zero h p = at_head Less (key x) (map key xs) (turned (key x) k Greater (p.1 0 x (omega arith) (omega arith)))
    place_err (x ∷ xs) (suc i) h p =
        at_head Greater (key x) (map key xs) (turned (key x) k Less (p.0 0 x (omega arith) (omega arith)))
        ∙ ap later (place_err xs i (omega arith) (λ n d low high. p.0 (suc n) d (omega arith) (omega arith), λ n d low high. p.1 (suc n) d (omega arith) (omega arith)))

    -- a binary search that compares each key with k finds the key's place
    pub place_from_search : (xs : List X) (r : Result ℕ ℕ) → T (rises R (map key xs)) → IsSearchInRange r (length xs) → IsBinarySearchResult (λ y. R (key y) k) xs r → r ≡ place R k (map key xs)
    place_from_search xs (Ok i) t h s = sym (place_ok xs i t h s)
    place_from_search xs (Err i) t h s = sym (place_err xs i h (s (rising xs t)))

  -- the same where the items are the keys, as `binary_search` says it
  pub place_from_key_search : (k : K) (xs : List K) (r : Result ℕ ℕ) → T (rises R xs) → IsSearchInRange r (length xs) → IsBinarySearchResult (λ y. R y k) xs r → r ≡ place R k xs
  place_from_key_search k xs r t h s = place_from_search (λ x. x) k xs r (subst T (sym (ap (rises R) (map-id xs))) t) h s ∙ ap (place R k) (map-id xs)

-- ---- the entries of a map

module _ {K X : Type 0} (R : K → K → Ordering) where
  abbrev pub keys_of : List (K × X) → List K
  keys_of es = map (λ e. e.0) es

  -- the value at a place
  abbrev pub value_at : Result ℕ ℕ → List (K × X) → K × X → Option X
  value_at (Ok i) es d = Some (get_or es i d).1
  value_at (Err i) es d = None

  -- the entries with a value at a place: a key that is there stays
  abbrev pub put_at : Result ℕ ℕ → K → X → List (K × X) → List (K × X)
  put_at (Ok i) k v es = set es i ((get_or es i (k, v)).0, v)
  put_at (Err i) k v es = insert es i (k, v)

  -- the entries without the one at a place
  abbrev pub gone_at : Result ℕ ℕ → List (K × X) → List (K × X)
  gone_at (Ok i) es = remove es i
  gone_at (Err i) es = es

  value_later : (p : Result ℕ ℕ) (e : K × X) (es : List (K × X)) (d : K × X) → value_at (later p) (e ∷ es) d ≡ value_at p es d
  value_later (Ok i) e es d = refl
  value_later (Err i) e es d = refl

  put_later : (p : Result ℕ ℕ) (k : K) (v : X) (e : K × X) (es : List (K × X)) → put_at (later p) k v (e ∷ es) ≡ e ∷ put_at p k v es
  put_later (Ok i) k v e es = refl
  put_later (Err i) k v e es = refl

  gone_later : (p : Result ℕ ℕ) (e : K × X) (es : List (K × X)) → gone_at (later p) (e ∷ es) ≡ e ∷ gone_at p es
  gone_later (Ok i) e es = refl
  gone_later (Err i) e es = refl

  below_keys : (k : K) (es : List (K × X)) → below_all R k es ≡ list_all (λ x. is_lt (R k x)) (keys_of es)
  below_keys k [] = refl
  below_keys k (e ∷ es) = ap (λ b. is_lt (R k e.0) && b) (below_keys k es)

  -- the two words for rising keys
  pub is_sorted-keys : (es : List (K × X)) → is_sorted R es ≡ rises R (keys_of es)
  is_sorted-keys [] = refl
  is_sorted-keys (e ∷ es) = λ i. below_keys e.0 es i && is_sorted-keys es i

  -- a write needs no order
  pub put-place : (k : K) (v : X) (es : List (K × X)) → put R k v es ≡ put_at (place R k (keys_of es)) k v es
  put-place k v [] = refl
  put-place k v (e ∷ es) =
      elim (R k e.0) as (λ r. by_order r ((k, v) ∷ e ∷ es) ((e.0, v) ∷ es) (e ∷ put R k v es) ≡ put_at (match_ordering r (Err 0) (Ok 0) (later (place R k (keys_of es)))) k v (e ∷ es)) [
        | Less ↦ refl
        | Equal ↦ refl
        | Greater ↦ ap (λ z. e ∷ z) (put-place k v es) ∙ sym (put_later (place R k (keys_of es)) k v e es)
      ]

  module _ (o : IsTotalOrder R) where
    none_below : (k : K) (es : List (K × X)) → T (list_all (λ y. is_lt (R k y)) (keys_of es)) → find R k es ≡ None
    none_below k [] t = refl
    none_below k (e ∷ es) t = ap (λ r. cond (is_eq r) (Some e.1) (find R k es)) (less _ (first _ _ t)) ∙ none_below k es (second _ _ t)

    all_kept : (k : K) (es : List (K × X)) → T (list_all (λ y. is_lt (R k y)) (keys_of es)) → where_key R (λ x. not (eq_by_cmp R k x)) es ≡ es
    all_kept k [] t = refl
    all_kept k (e ∷ es) t =
        ap (λ r. cond (not (is_eq r)) (e ∷ where_key R (λ x. not (eq_by_cmp R k x)) es) (where_key R (λ x. not (eq_by_cmp R k x)) es)) (less _ (first _ _ t))
        ∙ ap (λ z. e ∷ z) (all_kept k es (second _ _ t))

    pub find-place : (k : K) (es : List (K × X)) (d : K × X) → T (rises R (keys_of es)) → find R k es ≡ value_at (place R k (keys_of es)) es d
    find-place k [] d t = refl
    find-place k (e ∷ es) d t =
        elim (R k e.0) as (λ r. R k e.0 ≡ r → cond (is_eq r) (Some e.1) (find R k es) ≡ value_at (match_ordering r (Err 0) (Ok 0) (later (place R k (keys_of es)))) (e ∷ es) d) [
          | Less ↦ λ q. none_below k es (below_rest o k e.0 q (keys_of es) (first _ _ t))
          | Equal ↦ λ q. refl
          | Greater ↦ λ q. find-place k es d (second _ _ t) ∙ sym (value_later (place R k (keys_of es)) e es d)
        ] refl

    pub gone-place : (k : K) (es : List (K × X)) → T (rises R (keys_of es)) → where_key R (λ x. not (eq_by_cmp R k x)) es ≡ gone_at (place R k (keys_of es)) es
    gone-place k [] t = refl
    gone-place k (e ∷ es) t =
        let left = where_key R (λ x. not (eq_by_cmp R k x)) es in
        elim (R k e.0) as (λ r. R k e.0 ≡ r → cond (not (is_eq r)) (e ∷ left) left ≡ gone_at (match_ordering r (Err 0) (Ok 0) (later (place R k (keys_of es)))) (e ∷ es)) [
          | Less ↦ λ q. ap (λ z. e ∷ z) (all_kept k es (below_rest o k e.0 q (keys_of es) (first _ _ t)))
          | Equal ↦ λ q. all_kept k es (tied_below o k e.0 q (keys_of es) (first _ _ t))
          | Greater ↦ λ q. ap (λ z. e ∷ z) (gone-place k es (second _ _ t)) ∙ sym (gone_later (place R k (keys_of es)) e es)
        ] refl

    -- a write and a removal keep the order
    pub rises-put_at : (k : K) (v : X) (es : List (K × X)) → T (rises R (keys_of es)) → T (rises R (keys_of (put_at (place R k (keys_of es)) k v es)))
    rises-put_at k v es t = subst T (ap (is_sorted R) (put-place k v es) ∙ is_sorted-keys _) (is_sorted-put R o k v es (subst T (sym (is_sorted-keys es)) t))

    pub rises-gone_at : (k : K) (es : List (K × X)) → T (rises R (keys_of es)) → T (rises R (keys_of (gone_at (place R k (keys_of es)) es)))
    rises-gone_at k es t = subst T (ap (is_sorted R) (gone-place k es t) ∙ is_sorted-keys _) (is_sorted-where_key R _ es (subst T (sym (is_sorted-keys es)) t))

-- ---- the members of a set

module _ {K : Type 0} (R : K → K → Ordering) where
  -- the members with one more at its place
  abbrev pub member_at : Result ℕ ℕ → K → List K → List K
  member_at (Ok i) k ks = ks
  member_at (Err i) k ks = insert ks i k

  member_later : (p : Result ℕ ℕ) (k x : K) (xs : List K) → member_at (later p) k (x ∷ xs) ≡ x ∷ member_at p k xs
  member_later (Ok i) k x xs = refl
  member_later (Err i) k x xs = refl

  pub member-place : (k : K) (ks : List K) → with_member R k ks ≡ member_at (place R k ks) k ks
  member-place k [] = refl
  member-place k (x ∷ xs) =
      elim (R k x) as (λ r. match_ordering r (k ∷ x ∷ xs) (x ∷ xs) (x ∷ with_member R k xs) ≡ member_at (match_ordering r (Err 0) (Ok 0) (later (place R k xs))) k (x ∷ xs)) [
        | Less ↦ refl
        | Equal ↦ refl
        | Greater ↦ ap (λ z. x ∷ z) (member-place k xs) ∙ sym (member_later (place R k xs) k x xs)
      ]

  module _ (o : IsTotalOrder R) where
    all_with : (y k : K) → R y k ≡ Less → (ks : List K) → T (list_all (λ z. is_lt (R y z)) ks) → T (list_all (λ z. is_lt (R y z)) (with_member R k ks))
    all_with y k l [] t = both _ _ (subst (λ r. T (is_lt r)) (sym l) tt) tt
    all_with y k l (x ∷ xs) t =
        elim (R k x) as (λ r. T (list_all (λ z. is_lt (R y z)) (match_ordering r (k ∷ x ∷ xs) (x ∷ xs) (x ∷ with_member R k xs)))) [
          | Less ↦ both _ _ (subst (λ r. T (is_lt r)) (sym l) tt) t
          | Equal ↦ t
          | Greater ↦ both _ _ (first _ _ t) (all_with y k l xs (second _ _ t))
        ]

    pub rises-with_member : (k : K) (ks : List K) → T (rises R ks) → T (rises R (with_member R k ks))
    rises-with_member k [] t = tt
    rises-with_member k (x ∷ xs) t =
        elim (R k x) as (λ r. R k x ≡ r → T (rises R (match_ordering r (k ∷ x ∷ xs) (x ∷ xs) (x ∷ with_member R k xs)))) [
          | Less ↦ λ q. both _ _ (both _ _ (subst (λ r. T (is_lt r)) (sym q) tt) (below_rest o k x q xs (first _ _ t))) t
          | Equal ↦ λ q. t
          | Greater ↦ λ q. both _ _ (all_with x k (o.antisymm x k ∙ ap ordering_reverse q) xs (first _ _ t)) (rises-with_member k xs (second _ _ t))
        ] refl
