-- The logical lines of a text: its physical lines, unfolded (RFC 2849, notes 1 to 3).
use Rattle.std.specs.Prelude.{ℕ, ◌+◌, Bool, not, ◌&&◌, if◌then◌else◌, ◌==◌, nat_lt, List, [], ◌∷◌, ◌++◌, length, drop}
use Rattle.std.specs.List.{onto_first}
use Rattle.dir_ldif.specs.Bytes.{is_empty, begins_with, without_last}
use Rattle.dir_names.specs.Ascii.{carriage_return, line_feed, sharp, space}

-- a line: the number of its first physical line, from 1, and its text
abbrev pub Line : Type 0
Line = ℕ × List ℕ

-- the pieces of a list between the elements that pass a test. If the last element passes it, no empty piece follows
abbrev pub cut : {A : Type 0} → (A → Bool) → List A → List (List A)
cut test [] = []
cut test (x ∷ xs) = if test x then [] ∷ cut test xs else onto_first x (cut test xs)

-- LF
abbrev pub is_lf : ℕ → Bool
is_lf b = b == line_feed

-- the physical lines with their numbers, each without one final CR
abbrev pub physical_lines : ℕ → List (List ℕ) → List Line
physical_lines n [] = []
physical_lines n (text ∷ texts) = (n, without_last carriage_return text) ∷ physical_lines (n + 1) texts

-- a line that begins with a space continues the line before, unless that is empty
abbrev pub continues : Line → Line → Bool
continues line next = not (is_empty line.1) && begins_with space next.1

-- lines with this line before them: one with the first of them, less its space, where that continues it
abbrev pub with_first_line : Line → List Line → List Line
with_first_line line [] = line ∷ []
with_first_line line (next ∷ rest) =
    if continues line next then (line.0, line.1 ++ drop 1 next.1) ∷ rest else (line ∷ next ∷ rest)

-- the logical lines of physical lines: each line with its continuations
abbrev pub logical_lines : List Line → List Line
logical_lines [] = []
logical_lines (line ∷ rest) = with_first_line line (logical_lines rest)

-- the logical lines of a text, comments among them
abbrev pub lines_of : List ℕ → List Line
lines_of text = logical_lines (physical_lines 1 (cut is_lf text))

-- a comment
abbrev pub is_comment : Line → Bool
is_comment line = begins_with sharp line.1

-- a line of more than 2,097,152 bytes
abbrev pub is_long : Line → Bool
is_long line = nat_lt 2097152 (length line.1)
