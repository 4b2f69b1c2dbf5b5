use Rattle.std.proofs.Common.{◌≡◌, ◌++◌, length}
use Rattle.std.specs.Slice.Iter.{iter_rest}
use Rattle.dir_tree.specs.Inside.Pieces.{joined}
use Rattle.dir_tree.proofs.list_iter.ListIterIterator.next.Given as goal

abbrev pub invariant-loop-value : goal.invariant-loop-value
invariant-loop-value g l = iter_rest l.self-inside.first ++ joined (iter_rest l.self-inside.rest) ≡ l.fn.self

abbrev pub decreases-loop-value : goal.decreases-loop-value
decreases-loop-value g l = length (iter_rest l.self-inside.rest)
