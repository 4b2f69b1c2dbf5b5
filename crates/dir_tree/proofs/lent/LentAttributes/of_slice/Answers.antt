use Rattle.std.proofs.Common.{arith}
use Rattle.std.proofs.lemmas.Grind.{common_steps}
use Rattle.dir_tree.proofs.lent.LentAttributes.of_slice.Goals as goal

pub loop-attribute-preserved : goal.loop-attribute-preserved
loop-attribute-preserved c = grind (arith, common_steps)

pub invariant_of-result : goal.invariant_of-result
invariant_of-result c = grind (arith, common_steps)

pub returns : goal.returns
returns c = grind (arith, common_steps)
