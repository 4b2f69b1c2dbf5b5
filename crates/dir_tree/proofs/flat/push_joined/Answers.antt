use Rattle.std.proofs.Common.{arith}
use Rattle.std.proofs.lemmas.Grind.{common_steps}
use Rattle.dir_tree.proofs.flat.push_joined.Goals as goal

pub loop-own-preserved : goal.loop-own-preserved
loop-own-preserved c = grind (arith, common_steps)

pub returns : goal.returns
returns c = grind (arith, common_steps)
