use Rattle.std.proofs.Common.{arith}
use Rattle.std.proofs.lemmas.Grind.{common_steps}
use Rattle.dir_conf.proofs.cn_config.arguments.read_arguments.Goals as goal

pub returns-in-Refuse : goal.returns-in-Refuse
returns-in-Refuse c = grind (arith, common_steps)

pub loop-b-preserved : goal.loop-b-preserved
loop-b-preserved c = grind (arith, common_steps)

pub returns : goal.returns
returns c = grind (arith, common_steps)
