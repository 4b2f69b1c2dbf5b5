-- A long list, kept in pieces.
use Rattle.std.specs.Prelude.{◌≡◌, ◌≢◌, ℕ, ◌+◌, ◌-◌, ◌<◌, ◌≤◌, List, length, drop, slice_index_or, slice_set, take, Result, Ok, Err, Vec}
use Rattle.std.specs.List.{All, flat_map, insert}
use Rattle.std.specs.List.Sorted.{IsSearchInRange}
use Rattle.std.specs.declared.cmp.Ordering.{Ordering}
use Rattle.std.specs.declared.cmp.Ordering.TheVariants.{Less}

-- what a search in a piece answers, where so many elements come before the piece
abbrev pub after_elements : ℕ → Result ℕ ℕ → Result ℕ ℕ
after_elements before (Ok within) = Ok (before + within)
after_elements before (Err within) = Err (before + within)

module _ {Z V : Type 0} where
  -- the elements of one piece
  abbrev pub piece_items : Vec V Z → List V
  piece_items piece = piece.items

  -- the elements of pieces, piece after piece
  abbrev pub joined : List (Vec V Z) → List V
  joined pieces = flat_map piece_items pieces

  -- the piece is not empty, and has at most so many elements
  abbrev pub IsFilled : ℕ → Vec V Z → Type 0
  IsFilled most piece = (0 < length (piece_items piece)) × (length (piece_items piece) ≤ most)

  -- so each of them
  abbrev pub AreFilled : ℕ → List (Vec V Z) → Type 0
  AreFilled most pieces = All (IsFilled most) pieces

  -- the piece has fewer elements
  abbrev pub HasRoom : ℕ → List (Vec V Z) → ℕ → Type 0
  HasRoom most pieces piece = (d : Vec V Z) → length (piece_items (slice_index_or pieces piece d)) < most

  -- the element at the index `within` of a piece is at the index `at` of the whole list, or would be inserted there
  pub record IsPlace (pieces : List (Vec V Z)) (piece within at : ℕ) : Type 0 where
    pub there : piece < length pieces
    pub fits : (d : Vec V Z) → within ≤ length (piece_items (slice_index_or pieces piece d))
    pub is : at ≡ length (joined (take piece pieces)) + within

  -- there is an element at the index `within` of a piece
  abbrev pub IsInside : List (Vec V Z) → ℕ → ℕ → Type 0
  IsInside pieces piece within = (d : Vec V Z) → within < length (piece_items (slice_index_or pieces piece d))

  -- a search in a piece may have answered this
  abbrev pub IsSearchInPiece : List (Vec V Z) → ℕ → Result ℕ ℕ → Type 0
  IsSearchInPiece pieces piece found = (d : Vec V Z) → IsSearchInRange found (length (piece_items (slice_index_or pieces piece d)))

  -- a piece is two pieces afterwards: its first `at` elements, and the others
  pub record IsSplitAt (old new : List (Vec V Z)) (piece at : ℕ) : Type 0 where
    pub front : Vec V Z
    pub back : Vec V Z
    pub pieces : new ≡ insert (slice_set old piece front) (piece + 1) back
    pub front_values : (d : Vec V Z) → piece_items front ≡ take at (piece_items (slice_index_or old piece d))
    pub back_values : (d : Vec V Z) → piece_items back ≡ drop at (piece_items (slice_index_or old piece d))

  -- ---- elements that have keys

  module _ {K : Type 0} (R : K → K → Ordering) (key_of : V → K) where
    -- the last element of the piece is below the key
    abbrev pub EndsBelow : List (Vec V Z) → ℕ → K → Type 0
    EndsBelow pieces piece key = (d : Vec V Z) (e : V) → let values = piece_items (slice_index_or pieces piece d) in R (key_of (slice_index_or values (length values - 1) e)) key ≡ Less

    -- the last element of the piece has the key, or is above it
    abbrev pub EndsNotBelow : List (Vec V Z) → ℕ → K → Type 0
    EndsNotBelow pieces piece key = (d : Vec V Z) (e : V) → let values = piece_items (slice_index_or pieces piece d) in R (key_of (slice_index_or values (length values - 1) e)) key ≢ Less

    -- the key belongs to the piece: the piece before it ends below the key, and this one, if there is one, doesn't
    pub record IsPieceFor (pieces : List (Vec V Z)) (key : K) (piece : ℕ) : Type 0 where
      pub there : piece ≤ length pieces
      pub below : 0 < piece → EndsBelow pieces (piece - 1) key
      pub not_below : piece < length pieces → EndsNotBelow pieces piece key
