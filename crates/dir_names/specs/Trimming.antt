-- White space in texts, and what is dropped at a line's end.
use Rattle.std.specs.Prelude.{ℕ, ◌-◌, Bool, false, cond, ◌||◌, ◌==◌, List, length, take, Option, Some, None}
use Rattle.std.specs.List.{slice_get}
use Rattle.dir_names.specs.Ascii.{carriage_return, space, tab}

-- space and tab
abbrev pub is_blank : ℕ → Bool
is_blank b = b == space || b == tab

-- one carriage return at a line's end is dropped
abbrev pub is_return : Option ℕ → Bool
is_return None = false
is_return (Some b) = b == carriage_return

abbrev pub without_return : List ℕ → List ℕ
without_return line = cond (is_return (slice_get line (length line - 1))) (take (length line - 1) line) line
