use Rattle.std.proofs.Common.{◌≡◌, ◌++◌}
use Rattle.dir_tree.proofs.lent.LentAttributes.of_packed.Given as goal

abbrev pub invariant-loop-attribute : goal.invariant-loop-attribute
invariant-loop-attribute l = l.items.items ++ l.attribute-iterator ≡ l.packed
