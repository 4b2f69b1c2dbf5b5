-- The parts of an integer's text.
use Rattle.std.specs.Prelude.{ℕ, Bool, false, cond, ◌==◌, List, [], ◌∷◌}
use Rattle.dir_names.specs.Ascii.{hyphen}

abbrev pub is_negative : List ℕ → Bool
is_negative [] = false
is_negative (b ∷ bs) = b == hyphen

abbrev pub digits_of : List ℕ → List ℕ
digits_of [] = []
digits_of (b ∷ bs) = cond (b == hyphen) bs (b ∷ bs)
