-- How long the lines are that an unfolder holds. (The unfolder's own invariants cite these, so they are in a file that does not name it.)
use Rattle.std.specs.Prelude.{ℕ, ◌+◌, Bool, true, not, ◌&&◌, if◌then◌else◌, nat_le, List, length, Option, None, Some}
use Rattle.dir_ldif.specs.Bytes.{is_empty, begins_with, without_last}
use Rattle.dir_ldif.specs.LogicalLines.{Line, is_long}
use Rattle.dir_names.specs.Ascii.{carriage_return, space}

-- a line that may be continued is neither empty nor too long
abbrev pub may_be_continued : Option Line → Bool
may_be_continued None = true
may_be_continued (Some line) = not (is_empty line.1) && not (is_long line)

-- a physical line that has not ended makes no line too long, neither alone nor as the continuation of the last line.
-- A CR at its end may be the final one, and does not count
abbrev pub has_room : Option Line → List ℕ → Bool
has_room None partial = nat_le (length (without_last carriage_return partial)) 2097152
has_room (Some last) partial =
    if begins_with space (without_last carriage_return partial) then nat_le (length last.1 + length (without_last carriage_return partial)) 2097153
    else nat_le (length (without_last carriage_return partial)) 2097152
