use Rattle.std.proofs.Common.{◌≡◌, drop}
use Rattle.dir_tree.specs.Inside.Arranged.{with_descriptions}
use Rattle.dir_tree.proofs.lines.add_descriptions.Given as goal

abbrev pub invariant-loop-line : goal.invariant-loop-line
invariant-loop-line l = with_descriptions l.initial.attributes l.lines ≡ with_descriptions l.attributes (drop l.line-index l.lines)
