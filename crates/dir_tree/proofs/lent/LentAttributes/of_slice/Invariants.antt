use Rattle.std.proofs.Common.{◌≡◌, take}
use Rattle.dir_tree.proofs.lent.LentAttributes.of_slice.Given as goal

abbrev pub invariant-loop-attribute : goal.invariant-loop-attribute
invariant-loop-attribute l = l.items.items ≡ take l.attribute-index l.attributes
