use Rattle.std.proofs.Common.{subst}
use Rattle.std.specs.List.{All}
use Rattle.std.proofs.lemmas.List.Elements.{All-tail}
use Rattle.std.specs.Slice.Iter.{iter_rest}
use Rattle.dir_tree.specs.Inside.Packed.{IsPacked, values_of}
use Rattle.dir_tree.proofs.packed.PackedViewsIterator.next.Goals as goal

pub invariant_of-self-2 : goal.invariant_of-self-2
invariant_of-self-2 c = All-tail (IsPacked (values_of c.self.inside.common) (values_of c.self.inside.own)) c.in_ok-attribute.attribute.now (iter_rest c.next.new.self) (subst (All (IsPacked (values_of c.self.inside.common) (values_of c.self.inside.own))) c.in_ok-attribute.ensures.steps c.self.invariant)
