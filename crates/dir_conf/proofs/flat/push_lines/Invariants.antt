use Rattle.std.proofs.Common.{◌≡◌, ◌++◌, drop}
use Rattle.std.specs.List.{flat_map}
use Rattle.dir_conf.specs.Flat.{directive_line}
use Rattle.dir_conf.proofs.flat.push_lines.Given as goal

abbrev pub invariant-loop-line : goal.invariant-loop-line
invariant-loop-line l = l.text.items ++ flat_map directive_line (drop l.line-index l.lines) ≡ l.initial.text.items ++ flat_map directive_line l.lines
