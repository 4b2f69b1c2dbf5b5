use Rattle.std.proofs.Common.{take}
use Rattle.dir_tree.specs.Inside.Patterns.{Gathers}
use Rattle.dir_tree.proofs.packed.pattern.Pattern.packed.Given as goal

abbrev pub invariant-loop-attribute : goal.invariant-loop-attribute
invariant-loop-attribute l = Gathers l.schema l.lines l.fn.self.order.items l.rest (take l.attribute-index l.attribute-items) l.common l.own
