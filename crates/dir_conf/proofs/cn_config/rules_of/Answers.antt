use Rattle.std.proofs.Common.{arith}
use Rattle.std.proofs.lemmas.Grind.{common_steps}
use Rattle.dir_conf.proofs.cn_config.rules_of.Goals as goal

pub returns-in_err-rule_line : goal.returns-in_err-rule_line
returns-in_err-rule_line c = grind (arith, common_steps)

pub loop-value-preserved : goal.loop-value-preserved
loop-value-preserved c = grind (arith, common_steps)

pub returns : goal.returns
returns c = grind (arith, common_steps)
