use Rattle.std.proofs.Common.{arith}
use Rattle.std.proofs.lemmas.Grind.{common_steps}
use Rattle.dir_names.proofs.schema.definition.parts.read_parts.Goals as goal

pub returns-in-None : goal.returns-in-None
returns-in-None c = grind (arith, common_steps)

pub loop-token-preserved : goal.loop-token-preserved
loop-token-preserved c = grind (arith, common_steps)

pub returns-in-End : goal.returns-in-End
returns-in-End c = grind (arith, common_steps)

pub returns-in-Between : goal.returns-in-Between
returns-in-Between c = grind (arith, common_steps)
