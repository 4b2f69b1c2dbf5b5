-- What follows a piece where it comes first in a text.
use Rattle.std.specs.Prelude.{ℕ, cond, List, [], ◌∷◌, length, drop, nat_eq, Option, Some, None}
use Rattle.std.specs.List.{starts_with}

abbrev pub after_piece : List ℕ → List ℕ → Option (List ℕ)
after_piece piece [] = cond (starts_with nat_eq [] piece) (Some (drop (length piece) [])) None
after_piece piece (b ∷ bs) = cond (starts_with nat_eq (b ∷ bs) piece) (Some (drop (length piece) (b ∷ bs))) (after_piece piece bs)
