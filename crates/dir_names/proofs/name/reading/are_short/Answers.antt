use Rattle.dir_names.proofs.PrintedLengths.{small_at_end}
use Rattle.dir_names.proofs.name.reading.are_short.Goals as goal

pub returns : goal.returns
returns c = λ _. small_at_end c.args.pairs.now c.loop-pair.pair-index c.loop-pair.room c.loop-pair-test.false c.loop-pair.invariant.1
