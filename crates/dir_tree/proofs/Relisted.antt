-- The entries of a map, inserted again one after the other, make the map.
use Rattle.std.proofs.Common.{◌≡◌, Bool, true, false, cond, not, ◌&&◌, List, [], ◌∷◌, Option, Some, None, is_some, refl, sym, ap, ◌∙◌, true≢false, T}
use Rattle.std.specs.List.{list_all}
use Rattle.std.specs.FinMap as fin
use Rattle.std.specs.FinMap.{IsAntisymmetric, find, get-insert, get-empty, get-entries, entries_sorted, same_map}
use Rattle.std.specs.declared.cmp.Ordering.{Ordering}
use Rattle.std.specs.declared.cmp.Ordering.TheVariants.{Less, Equal, Greater}
use Rattle.std.specs.Ordering.{eq_by_cmp, is_eq, is_lt, ordering_reverse}
use Rattle.std.specs.Cmp.{IsTotalOrder, Equal-is}
use Rattle.dir_names.specs.Sorted.{rises}
use Rattle.dir_names.proofs.Placed.{is_sorted-keys, keys_of}
use Rattle.dir_names.proofs.Both.{left, right}

truth : {b : Bool} → T b → b ≡ true
truth {b} t = elim b as (λ b. T b → b ≡ true) [ true ↦ λ _. refl | _ ↦ λ f. absurd f ] t

less_differs : (r : Ordering) → is_lt r ≡ true → is_eq r ≡ false
less_differs Less h = refl
less_differs Equal h = absurd (true≢false (sym h))
less_differs Greater h = refl

turned_differs : (r : Ordering) → is_lt r ≡ true → is_eq (ordering_reverse r) ≡ false
turned_differs Less h = refl
turned_differs Equal h = absurd (true≢false (sym h))
turned_differs Greater h = refl

same : {K : Type 0} {R : K → K → Ordering} → IsAntisymmetric R → (q k : K) → eq_by_cmp R q k ≡ true → q ≡ k
same {R = R} exact q k s = exact q k ((Equal-is (R q k)).0 s)

module _ {K X : Type 0} {R : K → K → Ordering} (o : IsTotalOrder R) (exact : IsAntisymmetric R) where
  -- the map with all of the entries
  abbrev pub inserted : fin.FinMap R X → List (K × X) → fin.FinMap R X
  inserted m [] = m
  inserted m (e ∷ es) = inserted (fin.insert m e.0 e.1) es

  -- no entry's key is there when it comes
  abbrev pub are_new : fin.FinMap R X → List (K × X) → Bool
  are_new m [] = true
  are_new m (e ∷ es) = not (fin.contains_key m e.0) && are_new (fin.insert m e.0 e.1) es

  abbrev or_found : Option X → Option X → Option X
  or_found None x = x
  or_found (Some y) x = Some y

  or_none : (x : Option X) → or_found x None ≡ x
  or_none None = refl
  or_none (Some x) = refl

  -- a key before all others is none of them
  apart : (k : K) (es : List (K × X)) → list_all (λ x. is_lt (R k x)) (keys_of R es) ≡ true → find R k es ≡ None
  apart k [] t = refl
  apart k (e ∷ es) t = ap (λ b. cond b (Some e.1) (find R k es)) (less_differs (R k e.0) (left _ _ t)) ∙ apart k es (right (is_lt (R k e.0)) _ t)

  get_inserted : (m : fin.FinMap R X) (es : List (K × X)) → rises R (keys_of R es) ≡ true → (q : K) → fin.get (inserted m es) q ≡ or_found (find R q es) (fin.get m q)
  get_inserted m [] t q = refl
  get_inserted m (e ∷ es) t q =
      get_inserted (fin.insert m e.0 e.1) es (right (list_all (λ x. is_lt (R e.0 x)) (keys_of R es)) _ t) q
      ∙ ap (or_found (find R q es)) (get-insert o m e.0 e.1 q)
      ∙ by (eq_by_cmp R q e.0) refl
    where
      by : (b : Bool) → eq_by_cmp R q e.0 ≡ b → or_found (find R q es) (cond b (Some e.1) (fin.get m q)) ≡ or_found (cond b (Some e.1) (find R q es)) (fin.get m q)
      by false s = refl
      by true s = ap (λ x. or_found x (Some e.1)) (ap (λ k. find R k es) (same exact q e.0 s) ∙ apart e.0 es (left _ (rises R (keys_of R es)) t))

  in_order : (m : fin.FinMap R X) → rises R (keys_of R (fin.entries m)) ≡ true
  in_order m = sym (is_sorted-keys R (fin.entries m)) ∙ truth (entries_sorted m)

  pub inserted_whole : (m : fin.FinMap R X) → inserted fin.empty (fin.entries m) ≡ m
  inserted_whole m = same_map o exact _ _ (λ q.
      get_inserted fin.empty (fin.entries m) (in_order m) q
      ∙ ap (or_found (find R q (fin.entries m))) (get-empty R q)
      ∙ or_none (find R q (fin.entries m))
      ∙ sym (get-entries m q))

  abbrev none_there : fin.FinMap R X → List (K × X) → Bool
  none_there m es = list_all (λ e. not (fin.contains_key m e.0)) es

  still_new : (m : fin.FinMap R X) (k : K) (v : X) (es : List (K × X)) → list_all (λ x. is_lt (R k x)) (keys_of R es) ≡ true → none_there m es ≡ true → none_there (fin.insert m k v) es ≡ true
  still_new m k v [] t n = refl
  still_new m k v (e ∷ es) t n =
      let differs : eq_by_cmp R e.0 k ≡ false = ap is_eq (o.antisymm e.0 k) ∙ turned_differs (R k e.0) (left _ _ t) in
      let there : fin.contains_key (fin.insert m k v) e.0 ≡ fin.contains_key m e.0 = ap is_some (get-insert o m k v e.0) ∙ ap (λ b. is_some (cond b (Some v) (fin.get m e.0))) differs in
      λ i. (ap not there ∙ left _ _ n) i && still_new m k v es (right (is_lt (R k e.0)) _ t) (right (not (fin.contains_key m e.0)) _ n) i

  new_rising : (m : fin.FinMap R X) (es : List (K × X)) → rises R (keys_of R es) ≡ true → none_there m es ≡ true → are_new m es ≡ true
  new_rising m [] t n = refl
  new_rising m (e ∷ es) t n =
      let rest = still_new m e.0 e.1 es (left _ (rises R (keys_of R es)) t) (right (not (fin.contains_key m e.0)) _ n) in
      λ i. left (not (fin.contains_key m e.0)) (none_there m es) n i && new_rising (fin.insert m e.0 e.1) es (right (list_all (λ x. is_lt (R e.0 x)) (keys_of R es)) _ t) rest i

  none_in_empty : (es : List (K × X)) → none_there fin.empty es ≡ true
  none_in_empty [] = refl
  none_in_empty (e ∷ es) = (λ i. not (is_some {T = X} (get-empty R e.0 i)) && none_in_empty es i)

  pub new_whole : (m : fin.FinMap R X) → are_new fin.empty (fin.entries m) ≡ true
  new_whole m = new_rising fin.empty (fin.entries m) (in_order m) (none_in_empty (fin.entries m))

  -- what is written twice at one key is what was written last
  pub insert_over : (m : fin.FinMap R X) (k : K) (v w : X) → fin.insert (fin.insert m k v) k w ≡ fin.insert m k w
  insert_over m k v w = same_map o exact _ _ (λ q.
      get-insert o (fin.insert m k v) k w q
      ∙ ap (cond (eq_by_cmp R q k) (Some w)) (get-insert o m k v q)
      ∙ shadowed (eq_by_cmp R q k) (fin.get m q)
      ∙ sym (get-insert o m k w q))
    where
      shadowed : (b : Bool) (x : Option X) → cond b (Some w) (cond b (Some v) x) ≡ cond b (Some w) x
      shadowed true x = refl
      shadowed false x = refl
