use Rattle.std.proofs.Common.{◌≡◌, length}
use Rattle.dir_tree.specs.Inside.Patterns.{HasEach}
use Rattle.dir_tree.proofs.packed.pattern.order_of.Given as goal

abbrev pub invariant-loop-at : goal.invariant-loop-at
invariant-loop-at l = (length l.order.items ≡ l.at) × HasEach l.order.items
