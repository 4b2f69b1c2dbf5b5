-- What the split of a piece leaves: the same values, in pieces that aren't empty, and a place for each index.
use Rattle.std.proofs.Common.{◌≡◌, ℕ, ◌+◌, ◌-◌, ◌<◌, ◌≤◌, List, ◌∷◌, ◌++◌, length, get_or, set, take, drop, sym, ap, subst, ◌∙◌, arith, Vec}
use Rattle.std.specs.List.{All}
use Rattle.std.proofs.lemmas.List.{get_or-set_same, length-append, length-drop, length-set, length-take, length-take-le, take-append-drop, take-append-le, take-take}
use Rattle.std.proofs.lemmas.List.Edits.{length-insert, get_or-insert_at, get_or-insert_below}
use Rattle.std.proofs.lemmas.List.Elements.{All-append, All-cons, All-drop, All-set, All-take}
use Rattle.dir_tree.specs.Inside.Pieces.{AreFilled, HasRoom, IsFilled, IsInside, IsPlace, IsSplitAt, joined, piece_items}
use Rattle.dir_tree.proofs.Pieced.{before, before-split, flat_map-split}

module _ {Z V : Type 0} (old new : List (Vec V Z)) (piece at : ℕ) (s : IsSplitAt old new piece at) (there : piece < length old) where
  cut : piece_items s.front ++ piece_items s.back ≡ piece_items (get_or old piece s.front)
  cut = (λ i. s.front_values s.front i ++ s.back_values s.front i) ∙ take-append-drop at (piece_items (get_or old piece s.front))

  pub joined_split : joined new ≡ joined old
  joined_split = ap joined s.pieces ∙ flat_map-split piece_items old piece s.front s.front s.back there cut

  pub filled_split : (most : ℕ) → 0 < at → IsInside old piece at → AreFilled most old → AreFilled most new
  filled_split most some inside all =
      let Filled : Vec V Z → Type 0 = IsFilled most in
      let w = piece_items (get_or old piece s.front) in
      let within = inside s.front in
      let whole = (all piece s.front there).1 in
      let front : Filled s.front = (omega (arith, ap length (s.front_values s.front), length-take at w), omega (arith, ap length (s.front_values s.front), length-take at w, whole)) in
      let back : Filled s.back = (omega (arith, ap length (s.back_values s.front), length-drop at w), omega (arith, ap length (s.back_values s.front), length-drop at w, whole)) in
      let each : All Filled (set old piece s.front) = All-set Filled old piece s.front front all in
      subst (λ ps. AreFilled most ps) (sym s.pieces)
      (All-append Filled (take (piece + 1) (set old piece s.front)) (s.back ∷ drop (piece + 1) (set old piece s.front))
      (All-take Filled (piece + 1) (set old piece s.front) each)
      (All-cons Filled s.back (drop (piece + 1) (set old piece s.front)) back (All-drop Filled (piece + 1) (set old piece s.front) each)))

  length-old : length (set old piece s.front) ≡ length old
  length-old = length-set old piece s.front

  length-new : length new ≡ length old + 1
  length-new = ap length s.pieces ∙ length-insert (set old piece s.front) (piece + 1) s.back (omega (arith, length-old)) ∙ ap (λ n. n + 1) length-old

  -- the place of an index in the second part
  pub place_in_back : (within k : ℕ) → at ≤ within → IsInside old piece at → IsPlace old piece within k → IsPlace new (piece + 1) (within - at) k
  place_in_back within k le inside place =
      let w = piece_items (get_or old piece s.front) in
      let first = take-append-le (piece + 1) (take (piece + 1) (set old piece s.front)) (s.back ∷ drop (piece + 1) (set old piece s.front)) (omega (arith, length-take (piece + 1) (set old piece s.front), length-old)) ∙ take-take (piece + 1) (piece + 1) (set old piece s.front) (omega arith) in
      let start : joined (take (piece + 1) new) ≡ before piece_items old piece ++ piece_items s.front = ap (λ ps. joined (take (piece + 1) ps)) s.pieces ∙ ap joined first ∙ before-split piece_items old piece s.front s.front s.back there cut in
      let front : length (piece_items s.front) ≡ at = ap length (s.front_values s.front) ∙ length-take-le at w (omega (arith, inside s.front)) in
      record {
        there = omega (arith, length-new);
        fits = λ d.
            let back : get_or new (piece + 1) d ≡ s.back = ap (λ ps. get_or ps (piece + 1) d) s.pieces ∙ get_or-insert_at (set old piece s.front) (piece + 1) s.back d (omega (arith, length-old)) in
            omega (arith, ap (λ p. length (piece_items p)) back, ap length (s.back_values s.front), length-drop at w, place.fits s.front);
        is = omega (arith, place.is, ap length start, length-append (before piece_items old piece) (piece_items s.front), front);
      }

  -- the first part has room, if it is a part
  pub room_in_front : (most : ℕ) → at < most → IsInside old piece at → HasRoom most new piece
  room_in_front most some inside = λ d.
      let first : get_or new piece d ≡ s.front = ap (λ ps. get_or ps piece d) s.pieces ∙ get_or-insert_below (set old piece s.front) (piece + 1) s.back d piece (omega arith) (omega (arith, length-old)) ∙ get_or-set_same old piece s.front d there in
      omega (arith, ap (λ p. length (piece_items p)) first, ap length (s.front_values s.front), length-take at (piece_items (get_or old piece s.front)))

  -- so the second
  pub room_in_back : (most : ℕ) → 0 < at → AreFilled most old → IsInside old piece at → HasRoom most new (piece + 1)
  room_in_back most some all inside = λ d.
      let back : get_or new (piece + 1) d ≡ s.back = ap (λ ps. get_or ps (piece + 1) d) s.pieces ∙ get_or-insert_at (set old piece s.front) (piece + 1) s.back d (omega (arith, length-old)) in
      omega (arith, ap (λ p. length (piece_items p)) back, ap length (s.back_values s.front), length-drop at (piece_items (get_or old piece s.front)), inside s.front, (all piece s.front there).1)
