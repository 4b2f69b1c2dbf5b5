use Rattle.std.proofs.Common.{◌≡◌}
use Rattle.dir_tree.proofs.packed.sharing.share_names.Given as goal

abbrev pub invariant-loop-at : goal.invariant-loop-at
invariant-loop-at l = l.names.items ≡ l.initial.names.items
