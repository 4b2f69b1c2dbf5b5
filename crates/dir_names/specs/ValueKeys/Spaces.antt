-- The spaces of a text (RFC 4518, section 2.6.1, without its rule for values that are only spaces). A space is U+0020 alone.
use Rattle.std.specs.Prelude.{ℕ, Bool, false, cond, not, ◌&&◌, ◌||◌, ◌==◌, List, [], ◌∷◌, length, filter}
use Rattle.dir_names.specs.Ascii.{space, hyphen}

abbrev pub without_leading_spaces : List ℕ → List ℕ
without_leading_spaces [] = []
without_leading_spaces (b ∷ bs) = cond (b == space) (without_leading_spaces bs) (b ∷ bs)

-- a space goes if nothing is left after it
abbrev pub without_trailing_spaces : List ℕ → List ℕ
without_trailing_spaces [] = []
without_trailing_spaces (b ∷ bs) = cond (b == space && length (without_trailing_spaces bs) == 0) [] (b ∷ without_trailing_spaces bs)

abbrev pub begins_with_space : List ℕ → Bool
begins_with_space [] = false
begins_with_space (b ∷ bs) = b == space

-- each run of spaces becomes one space
abbrev pub with_single_spaces : List ℕ → List ℕ
with_single_spaces [] = []
with_single_spaces (b ∷ bs) = cond (b == space && begins_with_space bs) (with_single_spaces bs) (b ∷ with_single_spaces bs)

-- all three
abbrev pub without_extra_spaces : List ℕ → List ℕ
without_extra_spaces text = without_trailing_spaces (without_leading_spaces (with_single_spaces text))

abbrev pub without_spaces_and_hyphens : List ℕ → List ℕ
without_spaces_and_hyphens text = filter (λ b. not (b == space || b == hyphen)) text
