-- The logical lines of a text that are still to come.
use Rattle.std.specs.Prelude.{ℕ, List, [], ◌∷◌, map, Option, Some, None}
use Rattle.dir_names.specs.Inside.Left.{parts_left}
use Rattle.dir_names.specs.Trimming.{without_return}
use Rattle.dir_conf_text.specs.declared.joining.Joining.{Joining}
use Rattle.dir_conf_text.specs.Lines.{lines_after}

-- `begun` is the next one, so far; the text that is left begins with physical line `n`
abbrev pub lines_to_come : Joining → Option (ℕ × List ℕ) → ℕ → Option (List ℕ) → List (ℕ × List ℕ)
lines_to_come joining None n left = []
lines_to_come joining (Some begun) n left = lines_after joining begun n (map without_return (parts_left 10 left))

-- a line, where there is one, and those after it
abbrev pub with_first : Option (ℕ × List ℕ) → List (ℕ × List ℕ) → List (ℕ × List ℕ)
with_first None lines = lines
with_first (Some line) lines = line ∷ lines
