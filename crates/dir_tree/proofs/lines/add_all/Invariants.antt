use Rattle.std.proofs.Common.{◌≡◌}
use Rattle.dir_tree.specs.Inside.Arranged.{have_new_values}
use Rattle.dir_tree.specs.NewEntry.{with_lines}
use Rattle.dir_tree.proofs.lines.add_all.Given as goal

abbrev pub invariant-loop-line : goal.invariant-loop-line
invariant-loop-line l =
    (with_lines l.initial.attributes l.fn.lines.items ≡ with_lines l.attributes l.line-iterator.rest.items)
    × (have_new_values l.initial.attributes l.fn.lines.items ≡ have_new_values l.attributes l.line-iterator.rest.items)
