use Rattle.std.proofs.Common.{arith}
use Rattle.std.proofs.lemmas.Grind.{common_steps}
use Rattle.dir_acl.proofs.filter.reading.read_whole.Goals as goal

pub loop-rest-preserved : goal.loop-rest-preserved
loop-rest-preserved c = grind (arith, common_steps)

pub returns-in-AtEnd : goal.returns-in-AtEnd
returns-in-AtEnd c = grind (arith, common_steps)

pub returns-in_default-place : goal.returns-in_default-place
returns-in_default-place c = grind (arith, common_steps)
