use Rattle.dir_change.proofs.IncrementedValues.{AreSumsSoFar}
use Rattle.dir_change.proofs.increment.sums.Given as goal

abbrev pub invariant-loop-value : goal.invariant-loop-value
invariant-loop-value l = AreSumsSoFar l.amount l.attribute.stored.values l.texts.items l.value-iterator
