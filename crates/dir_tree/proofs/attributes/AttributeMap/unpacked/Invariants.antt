use Rattle.std.proofs.Common.{◌≡◌, ◌++◌}
use Rattle.dir_tree.proofs.attributes.AttributeMap.unpacked.Given as goal

abbrev pub invariant-loop-attribute : goal.invariant-loop-attribute
invariant-loop-attribute l = l.items ++ l.attribute-iterator ≡ l.packed
