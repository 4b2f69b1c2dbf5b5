use Rattle.std.proofs.Common.{◌≡◌, ◌++◌, length, map}
use Rattle.dir_conf_text.specs.Lines.{line_by, logical_lines}
use Rattle.dir_conf_text.proofs.lines.text_lines.Given as goal

-- the lines found so far, and those to come, are those of the whole text
abbrev pub invariant-loop-lines : goal.invariant-loop-lines
invariant-loop-lines l = logical_lines l.fn.joining l.text ≡ map line_by l.found.items ++ l.lines

abbrev pub decreases-loop-lines : goal.decreases-loop-lines
decreases-loop-lines l = length l.lines
