use Rattle.std.proofs.Common.{arith}
use Rattle.std.proofs.lemmas.Grind.{common_steps}
use Rattle.dir_conf_text.proofs.arguments.read_arguments.Goals as goal

pub loop-rest-preserved-in-Skip : goal.loop-rest-preserved-in-Skip
loop-rest-preserved-in-Skip c = grind (arith, common_steps)

pub loop-rest-preserved-in-Take : goal.loop-rest-preserved-in-Take
loop-rest-preserved-in-Take c = grind (arith, common_steps)

pub loop-rest-preserved : goal.loop-rest-preserved
loop-rest-preserved c = grind (arith, common_steps)

pub returns : goal.returns
returns c = grind (arith, common_steps)
