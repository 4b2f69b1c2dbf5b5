use Rattle.std.proofs.Common.{◌≡◌, take}
use Rattle.dir_names.proofs.list.lines.Lines.try_clone.Given as goal

abbrev pub invariant-loop-line : goal.invariant-loop-line
invariant-loop-line l = l.items.items ≡ take l.line-index l.line-items
