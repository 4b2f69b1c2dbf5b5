-- The part of an entry's attributes under some keys.
use Rattle.std.proofs.Common.{◌≡◌, ℕ, ◌+◌, ◌<◌, Bool, true, false, cond, ◌||◌, List, [], ◌∷◌, ◌++◌, length, take, get_or, Some, None, refl, sym, ap, ◌∙◌}
use Rattle.std.specs.FinMap as fin
use Rattle.std.specs.FinMap.{get-empty, get-insert}
use Rattle.std.specs.Ordering.{eq_by_cmp}
use Rattle.std.proofs.lemmas.List.{take_more}
use Rattle.dir_names.specs.Attr.{Attr}
use Rattle.dir_names.specs.Orders.{attr_cmp, attr_cmp_total}
use Rattle.dir_tree.specs.Content.{Stored, StoredAttributes}
use Rattle.dir_change.specs.Inside.Looked.{is_one_of}
use Rattle.dir_change.specs.Inside.Touched.{IsPartAt}
use Rattle.dir_change.proofs.KeysInOrder.{among_append, same_attr}

-- the keys before the next one, and this one
pub keys_so_far : (keys : List Attr) (i : ℕ) (k : Attr) → i < length keys → k ≡ get_or keys i k → take (i + 1) keys ≡ take i keys ++ k ∷ []
keys_so_far keys i k lt is = take_more keys i k lt ∙ ap (λ z. take i keys ++ z ∷ []) (sym is)

module _ (xs : StoredAttributes) where
  pub part_of_none : (part : StoredAttributes) → part ≡ fin.empty → IsPartAt [] xs part
  part_of_none part is q = ap (λ (m : StoredAttributes). fin.get m q) is ∙ get-empty attr_cmp q

  module _ (ks : List Attr) (k : Attr) (part new : StoredAttributes) (so : IsPartAt ks xs part) where
    among_more : (q : Attr) → is_one_of q (ks ++ k ∷ []) ≡ (is_one_of q ks || (eq_by_cmp attr_cmp q k || false))
    among_more q = among_append q ks (k ∷ [])

    pub part_with_one : (a : Stored) → Some a ≡ fin.get xs k → new ≡ fin.insert part k a → IsPartAt (ks ++ k ∷ []) xs new
    part_with_one a there is q =
        ap (λ (m : StoredAttributes). fin.get m q) is
        ∙ get-insert attr_cmp_total part k a q
        ∙ ap (cond (eq_by_cmp attr_cmp q k) (Some a)) (so q)
        ∙ by (eq_by_cmp attr_cmp q k) refl (is_one_of q ks)
        ∙ ap (λ b. cond b (fin.get xs q) None) (sym (among_more q))
      where
        by : (b : Bool) → eq_by_cmp attr_cmp q k ≡ b → (c : Bool) → cond b (Some a) (cond c (fin.get xs q) None) ≡ cond (c || (b || false)) (fin.get xs q) None
        by true t true = there ∙ ap (fin.get xs) (sym (same_attr q k t))
        by true t false = there ∙ ap (fin.get xs) (sym (same_attr q k t))
        by false t true = refl
        by false t false = refl

    pub part_without_one : None ≡ fin.get xs k → new ≡ part → IsPartAt (ks ++ k ∷ []) xs new
    part_without_one none is q =
        ap (λ (m : StoredAttributes). fin.get m q) is
        ∙ so q
        ∙ by (eq_by_cmp attr_cmp q k) refl (is_one_of q ks)
        ∙ ap (λ b. cond b (fin.get xs q) None) (sym (among_more q))
      where
        by : (b : Bool) → eq_by_cmp attr_cmp q k ≡ b → (c : Bool) → cond c (fin.get xs q) None ≡ cond (c || (b || false)) (fin.get xs q) None
        by b t true = refl
        by true t false = none ∙ ap (fin.get xs) (sym (same_attr q k t))
        by false t false = refl
