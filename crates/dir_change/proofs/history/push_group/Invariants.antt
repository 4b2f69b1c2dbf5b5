use Rattle.std.proofs.Common.{◌≡◌, ◌++◌, take}
use Rattle.dir_change.specs.UndoText.{group_text}
use Rattle.dir_change.proofs.history.push_group.Given as goal

abbrev pub invariant-loop-change : goal.invariant-loop-change
invariant-loop-change l = l.out.items ≡ l.initial.out.items ++ group_text (take l.change-index l.change-items)
