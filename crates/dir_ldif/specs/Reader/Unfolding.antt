-- What an unfolder, which takes a text in chunks, has still to give: of the lines that it holds and of the text that follows.
use Rattle.std.specs.Prelude.{ℕ, List, ◌∷◌, ◌++◌, Option, None, Some}
use Rattle.dir_ldif.specs.declared.reader.unfolder.Unfolder.{Unfolder}
use Rattle.dir_ldif.specs.LogicalLines.{Line, cut, is_lf, logical_lines, physical_lines}
use Rattle.dir_ldif.specs.Blocks.{BlockResult}
use Rattle.dir_ldif.specs.Remainder.{Remainder, blocks_in, remainder_from}

-- the logical lines of a last line, which may be continued, and the physical lines after it
abbrev pub lines_after : Option Line → List Line → List Line
lines_after None lines = logical_lines lines
lines_after (Some last) lines = logical_lines (last ∷ lines)

-- what is to come where these physical lines follow
abbrev pub to_come_with : Unfolder → List Line → Remainder
to_come_with u lines = remainder_from u.marks u.begun u.block.items (lines_after u.last lines)

-- what is to come where this text follows
abbrev pub to_come : Unfolder → List ℕ → Remainder
to_come u text = to_come_with u (physical_lines u.number (cut is_lf (u.partial.items ++ text)))

-- the blocks to come where this text follows
abbrev pub blocks_to_come : Unfolder → List ℕ → List BlockResult
blocks_to_come u text = blocks_in (to_come u text)
