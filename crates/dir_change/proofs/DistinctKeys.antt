-- Keys that are sorted first: the set of them is the same.
use Rattle.std.proofs.Common.{◌≡◌, List, [], ◌∷◌, sym, ◌∙◌}
use Rattle.std.specs.List.{flat_map}
use Rattle.std.specs.List.Sorted.{IsPermutation}
use Rattle.std.specs.Ordering.{eq_by_cmp}
use Rattle.std.proofs.lemmas.List.{map-id}
use Rattle.std.proofs.lemmas.List.Concat.{flat_map_single}
use Rattle.std.proofs.lemmas.List.Sorted.{list_any-IsPermutation}
use Rattle.dir_names.specs.Attr.{Attr}
use Rattle.dir_names.specs.Orders.{attr_cmp}
use Rattle.dir_names.specs.Sorted.{set_of}
use Rattle.dir_change.proofs.KeysInOrder.{same_listed, set_among, set_rises}

listed_alone : (ks : List Attr) → flat_map (λ k. k ∷ []) ks ≡ ks
listed_alone ks = flat_map_single (λ k. k) ks ∙ map-id ks

pub same_set : (xs ys : List Attr) → IsPermutation xs ys → set_of attr_cmp ys ≡ set_of attr_cmp xs
same_set xs ys same =
    sym (listed_alone (set_of attr_cmp ys))
    ∙ same_listed (λ k. k ∷ []) (set_of attr_cmp ys) (set_of attr_cmp xs) (set_rises ys) (set_rises xs)
    (λ k _. set_among k ys ∙ sym (list_any-IsPermutation (eq_by_cmp attr_cmp k) xs ys same) ∙ sym (set_among k xs))
    ∙ listed_alone (set_of attr_cmp xs)
