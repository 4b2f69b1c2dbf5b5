-- Items in rising order of their keys in a `Vec`, as a finite map. `place` is what a binary search answers.
use Rattle.std.proofs.Common.{◌≡◌, ℕ, suc, set, Bool, true, List, [], ◌∷◌, map, length, get_or, Some, None, Result, Ok, Err, refl, sym, ap, subst, ◌∙◌, IsTrue, T}
use Rattle.std.specs.declared.cmp.Ordering.{Ordering}
use Rattle.std.specs.declared.cmp.Ordering.TheVariants.{Less, Equal, Greater}
use Rattle.std.specs.Ordering.{match_ordering}
use Rattle.std.specs.Cmp.{IsTotalOrder}
use Rattle.std.specs.FinMap as fin
use Rattle.std.specs.FinMap.{IsAntisymmetric, same_map, get-from_sorted, get-empty, entries-from_sorted, len-entries}
use Rattle.std.specs.List.{insert, remove}
use Rattle.std.specs.List.Sorted.{IsBinarySearchResult, IsSearchInRange}
use Rattle.std.proofs.lemmas.List.{length-map}
use Rattle.dir_names.specs.Sorted.{rises, place, later}
use Rattle.dir_names.proofs.Placed.{so, place_from_search, is_sorted-keys, keys_of}
use Rattle.dir_names.proofs.Maps.{gone_err, gone_ok, got_ok, got_err, put_err, put_ok, sorted_gone, sorted_put_err, sorted_put_ok}

pub truth : {b : Bool} → T b → b ≡ true
truth {b} t = elim b as (λ b. T b → b ≡ true) [ true ↦ λ _. refl | _ ↦ λ f. absurd f ] t

module _ {I K X : Type 0} {R : K → K → Ordering} (o : IsTotalOrder R) (pair : I → K × X) where
  abbrev pub keys_in : List I → List K
  keys_in items = map (λ item. (pair item).0) items

  abbrev pub map_in : List I → fin.FinMap R X
  map_in items = fin.from_sorted (map pair items)

  module _ (exact : IsAntisymmetric R) (k : K) where
    -- the item at a key's place has that key
    pub found : (items : List I) (i : ℕ) (d : I) → place R k (keys_in items) ≡ Ok i → (pair (get_or items i d)).0 ≡ k
    found [] i d e = absurd (cc)
    found (x ∷ xs) i d e = by (λ n. found xs n d) (R k (pair x).0) refl (place R k (keys_in xs)) refl i e
      where
        by : ((n : ℕ) → place R k (keys_in xs) ≡ Ok n → (pair (get_or xs n d)).0 ≡ k) → (r : Ordering) → R k (pair x).0 ≡ r → (p : Result ℕ ℕ) → place R k (keys_in xs) ≡ p → (j : ℕ) → match_ordering r (Err 0) (Ok 0) (later p) ≡ Ok j → (pair (get_or (x ∷ xs) j d)).0 ≡ k
        by rest Less q p s j h = absurd (cc)
        by rest Equal q p s j h = let z : 0 ≡ j = cc in subst (λ n. (pair (get_or (x ∷ xs) n d)).0 ≡ k) z (sym (exact k (pair x).0 q))
        by rest Greater q (Ok n) s j h = let z : suc n ≡ j = cc in subst (λ m. (pair (get_or (x ∷ xs) m d)).0 ≡ k) z (rest n s)
        by rest Greater q (Err n) s j h = absurd (cc)

  pub map_in_none : IsAntisymmetric R → map_in [] ≡ fin.empty
  map_in_none exact = same_map o exact _ _ (λ q. get-from_sorted R [] q tt ∙ sym (get-empty R q))

  module _ (items : List I) (in_order : IsTrue (rises R (keys_in items))) (k : K) (r : Result ℕ ℕ) where
    pub placed : IsSearchInRange r (length items) → IsBinarySearchResult (λ item. R (pair item).0 k) items r → r ≡ place R k (keys_in items)
    placed h s = place_from_search o (λ item. (pair item).0) k items r (so _ in_order) h s

    module _ (at : r ≡ place R k (keys_in items)) (i : ℕ) where
      pub got : r ≡ Ok i → (d : I) → fin.get (map_in items) k ≡ Some (pair (get_or items i d)).1
      got is d = got_ok o pair items (so _ in_order) k i d (sym at ∙ is)

      pub missing : r ≡ Err i → (d : X) → fin.get (map_in items) k ≡ None
      missing is d = got_err o pair items (so _ in_order) k i (sym at ∙ is) (k, d)

      pub put : r ≡ Err i → (item : I) → (pair item).0 ≡ k → fin.insert (map_in items) k (pair item).1 ≡ map_in (insert items i item)
      put is item same = put_err o pair items (so _ in_order) k i item (sym at ∙ is) same

      pub put_over : r ≡ Ok i → (item : I) → (pair item).0 ≡ (pair (get_or items i item)).0 → fin.insert (map_in items) k (pair item).1 ≡ map_in (set items i item)
      put_over is item same = put_ok o pair items (so _ in_order) k i item (sym at ∙ is) same

      pub rises_over : r ≡ Ok i → (item : I) → (pair item).0 ≡ (pair (get_or items i item)).0 → IsTrue (rises R (keys_in (set items i item)))
      rises_over is item same = truth (sorted_put_ok o pair items (so _ in_order) k i item (sym at ∙ is) same)

      pub still_rises : r ≡ Err i → (item : I) → (pair item).0 ≡ k → IsTrue (rises R (keys_in (insert items i item)))
      still_rises is item same = truth (sorted_put_err o pair items (so _ in_order) k i item (sym at ∙ is) same)

      pub gone : IsAntisymmetric R → r ≡ Ok i → fin.remove (map_in items) k ≡ map_in (remove items i)
      gone exact is = gone_ok o pair items (so _ in_order) k exact i (sym at ∙ is)

      pub none_gone : IsAntisymmetric R → r ≡ Err i → fin.remove (map_in items) k ≡ map_in items
      none_gone exact is = gone_err o pair items (so _ in_order) k exact i (sym at ∙ is)

      pub rises_gone : r ≡ Ok i → IsTrue (rises R (keys_in (remove items i)))
      rises_gone is = truth (sorted_gone o pair items (so _ in_order) k i (sym at ∙ is))

  pub one_in : IsAntisymmetric R → (item : I) → map_in (item ∷ []) ≡ fin.insert fin.empty (pair item).0 (pair item).1
  one_in exact item = sym (put [] refl (pair item).0 (Err 0) refl 0 refl item refl) ∙ ap (λ m. fin.insert m (pair item).0 (pair item).1) (map_in_none exact)

  keys_map : (items : List I) → keys_of R (map pair items) ≡ keys_in items
  keys_map [] = refl
  keys_map (item ∷ items) = ap (λ z. (pair item).0 ∷ z) (keys_map items)

  pub entries_in : (items : List I) → IsTrue (rises R (keys_in items)) → fin.entries (map_in items) ≡ map pair items
  entries_in items in_order = entries-from_sorted R (map pair items) (subst T (sym (is_sorted-keys R (map pair items) ∙ ap (rises R) (keys_map items))) (so _ in_order))

  pub len_in : (items : List I) → IsTrue (rises R (keys_in items)) → fin.len (map_in items) ≡ length items
  len_in items in_order = len-entries (map_in items) ∙ ap length (entries_in items in_order) ∙ length-map items pair
