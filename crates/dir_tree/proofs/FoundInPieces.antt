-- What a search in the piece to which a key belongs says of the whole list.
use Rattle.std.proofs.Common.{◌≡◌, ℕ, zero, suc, ◌-◌, ◌<◌, ◌≤◌, true, List, [], ◌∷◌, map, length, get_or, take, Result, Ok, Err, sym, ap, subst, ◌∙◌, arith, Vec, add-one}
use Rattle.std.specs.Cmp.{IsTotalOrder}
use Rattle.std.specs.declared.cmp.Ordering.{Ordering}
use Rattle.std.specs.declared.cmp.Ordering.TheVariants.{Less}
use Rattle.std.specs.List.Sorted.{IsSearchInRange}
use Rattle.std.proofs.lemmas.List.{take_all}
use Rattle.dir_names.proofs.Placed.{so}
use Rattle.dir_names.specs.Sorted.{place, rises}
use Rattle.dir_tree.specs.Inside.Pieces.{after_elements, AreFilled, EndsBelow, IsPieceFor, IsSearchInPiece, joined, piece_items}
use Rattle.dir_tree.proofs.Pieced.{before, length-before}
use Rattle.dir_tree.proofs.PlaceInPieces.{ends_before, place_after, place_in, rises_in}
use Rattle.dir_tree.proofs.SortedVecs.{truth}

module _ {Z V : Type 0} (ps : List (Vec V Z)) (p : ℕ) (there : p < length ps) where
  one_of : (qs : List (Vec V Z)) → p < length qs → Vec V Z
  one_of [] h = absurd (omega arith)
  one_of (x ∷ xs) h = x

  -- what a search in a piece may answer is in the range of the whole list
  pub found_in_range : (found : Result ℕ ℕ) → IsSearchInPiece ps p found → IsSearchInRange (after_elements (length (joined (take p ps))) found) (length (joined ps))
  found_in_range (Ok i) h = let d = one_of ps there in omega (arith, h d, length-before piece_items ps p d there)
  found_in_range (Err i) h = let d = one_of ps there in omega (arith, h d, length-before piece_items ps p d there)

-- the place of a key among elements
abbrev pub place_among : {V K : Type 0} → (R : K → K → Ordering) → (V → K) → K → List V → Result ℕ ℕ
place_among R key_of key values = place R key (map key_of values)

module _ {Z V K : Type 0} {R : K → K → Ordering} (o : IsTotalOrder R) (key_of : V → K) (key : K) where
  module _ (most : ℕ) where
    ends : (ps : List (Vec V Z)) (p : ℕ) → AreFilled most ps → p ≤ length ps → (0 < p → EndsBelow R key_of ps (p - 1) key) →
        (e : V) (i : ℕ) → suc i ≡ length (before piece_items ps p) → R (key_of (get_or (before piece_items ps p) i e)) key ≡ Less
    ends ps zero filled le below e i last = absurd (omega arith)
    ends [] (suc q) filled le below e i last = absurd (omega arith)
    ends (x ∷ xs) (suc q) filled le below e i last =
        let there : q < length (x ∷ xs) = omega arith in
        let here : suc q - 1 ≡ q = omega arith in
        let ends_below : EndsBelow R key_of (x ∷ xs) q key = subst (λ n. EndsBelow R key_of (x ∷ xs) n key) here (below (omega arith)) in
        subst (λ n. suc i ≡ length (before piece_items (x ∷ xs) n) → R (key_of (get_or (before piece_items (x ∷ xs) n) i e)) key ≡ Less) (add-one q)
        (ends_before o key_of key piece_items (x ∷ xs) q x there ((filled q x there).0) (λ e. ends_below x e) e i) last

    module _ (ps : List (Vec V Z)) (p : ℕ) (belongs : IsPieceFor R key_of ps key p) (filled : AreFilled most ps) (rising : rises R (map key_of (joined ps)) ≡ true) where
      pub found_past : (e : V) → p ≡ length ps → place_among R key_of key (joined ps) ≡ Err (length (joined ps))
      found_past e is =
          let all : before piece_items ps p ≡ joined ps = ap joined (take_all p ps (omega arith)) in
          place_after o key_of key (joined ps) e (so _ rising)
          (subst (λ values. (i : ℕ) → suc i ≡ length values → R (key_of (get_or values i e)) key ≡ Less) all (ends ps p filled belongs.there belongs.below e))

      pub rising_in : (d : Vec V Z) → p < length ps → rises R (map key_of (piece_items (get_or ps p d))) ≡ true
      rising_in d h = truth (rises_in o key_of key piece_items ps p d (so _ rising) h)

      pub found_in : (d : Vec V Z) (e : V) → p < length ps → (n : ℕ) → n ≡ length (joined (take p ps)) → (r : Result ℕ ℕ) → r ≡ place_among R key_of key (piece_items (get_or ps p d)) → after_elements n r ≡ place_among R key_of key (joined ps)
      found_in d e h n size r at =
          (λ i. after_elements (size i) (at i))
          ∙ sym (place_in o key_of key piece_items ps p d e (so _ rising) h ((filled p d h).0) (ends ps p filled belongs.there belongs.below e) (belongs.not_below h d e))
