-- Whether a text has the pieces of a substring assertion: some cut of it does (RFC 4511, section 4.5.1.7.2; RFC 4517, section 4.2.12).
use Rattle.std.specs.Prelude.{◌≡◌, ℕ, Bool, ◌&&◌, List, [], ◌∷◌, ◌++◌, length, drop, nat_eq}
use Rattle.std.specs.List.{list_any, starts_with}
use Rattle.dir_names.specs.Orders.{bytes_eq}
use Rattle.dir_acl.specs.declared.filter.Pieces.{Pieces}

-- ---- as a fact

-- after any text, these pieces in order, with any text between them, and the last piece at the end
abbrev pub HasMiddles : List ℕ → List (List ℕ) → List ℕ → Type 0
HasMiddles text [] last = (between : List ℕ) × (text ≡ between ++ last)
HasMiddles text (piece ∷ pieces) last = (between : List ℕ) × (after : List ℕ) × (text ≡ between ++ (piece ++ after)) × HasMiddles after pieces last

-- the text is the first piece, any text, the middle pieces with any text between them, any text, and the last piece
abbrev pub HasPieces : List ℕ → Pieces → Type 0
HasPieces text pieces = (after : List ℕ) × (text ≡ pieces.first ++ after) × HasMiddles after pieces.middle pieces.last

-- ---- as a test

-- the text, and what is left of it without its first byte, its first two, and so on
abbrev pub tails : List ℕ → List (List ℕ)
tails [] = [] ∷ []
tails (b ∷ bs) = (b ∷ bs) ∷ tails bs

abbrev pub has_middles : List (List ℕ) → List ℕ → List ℕ → Bool
has_middles [] last text = list_any (λ tail. bytes_eq last tail) (tails text)
has_middles (piece ∷ pieces) last text = list_any (λ tail. starts_with nat_eq tail piece && has_middles pieces last (drop (length piece) tail)) (tails text)

abbrev pub has_pieces : Pieces → List ℕ → Bool
has_pieces pieces text = starts_with nat_eq text pieces.first && has_middles pieces.middle pieces.last (drop (length pieces.first) text)
