use Rattle.std.proofs.Common.{◌≡◌, take}
use Rattle.dir_tree.proofs.stored.clones.Given as goal

abbrev pub invariant-loop-element : goal.invariant-loop-element
invariant-loop-element g l = l.copy.items ≡ take l.element-index l.elements
