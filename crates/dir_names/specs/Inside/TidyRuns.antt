-- How much of a text comes before its first extra space: one at the end, or before another space.
use Rattle.std.specs.Prelude.{ℕ, Bool, true, cond, ◌+◌, ◌&&◌, ◌==◌, List, [], ◌∷◌}
use Rattle.dir_names.specs.Ascii.{space}

abbrev pub is_end_or_space : List ℕ → Bool
is_end_or_space [] = true
is_end_or_space (b ∷ bs) = b == space

abbrev pub tidy_len : List ℕ → ℕ
tidy_len [] = 0
tidy_len (b ∷ bs) = cond (b == space && is_end_or_space bs) 0 (1 + tidy_len bs)
