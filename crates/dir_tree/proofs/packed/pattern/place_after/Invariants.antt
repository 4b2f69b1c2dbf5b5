use Rattle.std.proofs.Common.{◌≤◌, length}
use Rattle.dir_tree.proofs.packed.pattern.place_after.Given as goal

abbrev pub invariant-loop-at : goal.invariant-loop-at
invariant-loop-at l = (l.start ≤ l.at) × (l.at ≤ length l.values)

abbrev pub decreases-loop-at : goal.decreases-loop-at
decreases-loop-at l = l.at
