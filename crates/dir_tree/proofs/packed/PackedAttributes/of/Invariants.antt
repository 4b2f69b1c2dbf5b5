use Rattle.std.proofs.Common.{◌≡◌, take}
use Rattle.dir_tree.proofs.packed.PackedAttributes.of.Given as goal

abbrev pub invariant-loop-attribute : goal.invariant-loop-attribute
invariant-loop-attribute l = l.packing ≡ take l.attribute-index l.attributes
