use Rattle.std.proofs.Common.{◌≤◌, length}
use Rattle.dir_names.proofs.SortedNames.{IsSorted}
use Rattle.dir_names.proofs.key.sort_key.put_rdns.Given as goal

abbrev pub invariant-loop-at : goal.invariant-loop-at
invariant-loop-at l = (l.at ≤ length l.rdns) × IsSorted l.schema l.rdns l.at l.out.items

abbrev pub decreases-loop-at : goal.decreases-loop-at
decreases-loop-at l = l.at
