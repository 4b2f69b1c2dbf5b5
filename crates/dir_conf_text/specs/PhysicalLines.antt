-- On which physical line a word of a line of a slapd.conf begins (slapd.conf(5), "GENERAL FORMAT"). `line_with_words`, at the end of this page, is the whole.
use Rattle.std.specs.Prelude.{ℕ, ◌+◌, ◌-◌, cond, nat_lt, List, [], ◌∷◌, ◌++◌, drop, length}
use Rattle.dir_conf_text.specs.Arguments.{arguments_of}
use Rattle.dir_conf_text.specs.Lines.{begins_with_blank, physical_lines}

-- the physical lines that go on with the line before them
abbrev pub continued : List (List ℕ) → List (List ℕ)
continued [] = []
continued (line ∷ lines) = cond (begins_with_blank line) (line ∷ continued lines) []

-- those of the line that the first of these begins
abbrev pub folded : List (List ℕ) → List (List ℕ)
folded [] = []
folded (line ∷ lines) = line ∷ continued lines

-- the physical lines of the line that begins with physical line `n`
abbrev pub folded_at : ℕ → List ℕ → List (List ℕ)
folded_at n text = folded (drop (n - 1) (physical_lines text))

-- of these physical lines, the first of which is line `n` and comes after `text`, the first one up to which there are `k` words
abbrev pub line_with : ℕ → ℕ → List ℕ → List (List ℕ) → ℕ
line_with k n text [] = n
line_with k n text (line ∷ lines) = cond (nat_lt (length (arguments_of (text ++ line))) k) (line_with k (n + 1) (text ++ line) lines) n

-- the physical line up to which the line that begins with physical line `n` has `k` words
abbrev pub line_with_words : ℕ → ℕ → List ℕ → ℕ
line_with_words k n text = line_with k n [] (folded_at n text)
