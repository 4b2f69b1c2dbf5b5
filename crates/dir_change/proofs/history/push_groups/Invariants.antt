use Rattle.std.proofs.Common.{◌≡◌, ◌+◌, ◌++◌, length, take, reverse}
use Rattle.dir_change.specs.UndoText.{marked_text}
use Rattle.dir_change.proofs.history.push_groups.Given as goal

abbrev pub invariant-loop-at : goal.invariant-loop-at
invariant-loop-at l = (l.number + l.at ≡ length l.groups) × (l.initial.out.items ++ marked_text 1 (reverse l.groups) ≡ l.out.items ++ marked_text (l.number + 1) (reverse (take l.at l.groups)))

abbrev pub decreases-loop-at : goal.decreases-loop-at
decreases-loop-at l = l.at
