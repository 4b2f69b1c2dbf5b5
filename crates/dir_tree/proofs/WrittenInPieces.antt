-- An element at an index of a list in pieces, read or written in its piece.
use Rattle.std.proofs.Common.{◌≡◌, ℕ, ◌<◌, List, length, get_or, set, sym, ap, subst, ◌∙◌, arith, Vec}
use Rattle.std.specs.Vec.{with_item}
use Rattle.std.proofs.lemmas.List.{get_or_default, length-set}
use Rattle.std.proofs.lemmas.List.Elements.{All-set}
use Rattle.dir_tree.specs.Inside.Pieces.{AreFilled, IsFilled, IsInside, IsPlace, joined, piece_items}
use Rattle.dir_tree.proofs.Pieced.{get_in, set_in}

-- `row` is the pieces as a call saw them, and `values` the piece
module _ {Z V : Type 0} (pieces row : List (Vec V Z)) (same : row ≡ pieces) (piece within at : ℕ) (place : IsPlace row piece within at) (inside : IsInside row piece within) (values : Vec V Z) (is : values ≡ get_or pieces piece values) where
  placed : IsPlace pieces piece within at
  placed = subst (λ row. IsPlace row piece within at) same place

  is_inside : within < length (piece_items (get_or pieces piece values))
  is_inside = subst (λ row. IsInside row piece within) same inside values

  pub read : (element other : V) → element ≡ get_or (piece_items values) within element → at < length (joined pieces) → element ≡ get_or (joined pieces) at other
  read element other found there =
      found ∙ ap (λ p. get_or (piece_items p) within element) is
      ∙ sym (get_in piece_items pieces piece within at values element placed.there is_inside placed.is)
      ∙ get_or_default (joined pieces) at element other there

  pub written : (element : V) → joined (set pieces piece (with_item values within element)) ≡ set (joined pieces) at element
  written element = set_in piece_items pieces piece within at values (with_item values within element) placed.there placed.is element is_inside (ap (λ p. set (piece_items p) within element) is)

  pub stays : (most len : ℕ) (element : V) → (len ≡ length (joined pieces)) × AreFilled most pieces
      → (len ≡ length (joined (set pieces piece (with_item values within element)))) × AreFilled most (set pieces piece (with_item values within element))
  stays most len element kept =
      let new = with_item values within element in
      let size : length (piece_items new) ≡ length (piece_items values) = length-set values.items within element in
      let old = ap length (ap piece_items is) in
      let whole = (kept.1 piece values placed.there).1 in
      let some : IsFilled most new = (omega (arith, size, is_inside, old), omega (arith, size, whole, old)) in
      (kept.0 ∙ sym (ap length (written element) ∙ length-set (joined pieces) at element), All-set (IsFilled most) pieces piece new some kept.1)
