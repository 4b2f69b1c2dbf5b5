use Rattle.std.proofs.Common.{◌≡◌, ◌++◌, length}
use Rattle.dir_conf_text.specs.declared.joining.Joining.TheVariants.{Plain}
use Rattle.dir_conf_text.specs.Lines.{logical_lines}
use Rattle.dir_conf_text.specs.Text.{lines_defined}
use Rattle.dir_conf_text.proofs.text.ConfigText.cut_definitions.Given as goal

-- the lines found so far, and those of the lines to come, are those of the whole text
abbrev pub invariant-loop-lines : goal.invariant-loop-lines
invariant-loop-lines l = lines_defined (logical_lines Plain l.text) ≡ l.found.items ++ lines_defined l.lines

abbrev pub decreases-loop-lines : goal.decreases-loop-lines
decreases-loop-lines l = length l.lines
