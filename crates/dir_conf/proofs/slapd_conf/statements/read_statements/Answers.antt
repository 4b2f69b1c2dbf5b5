use Rattle.std.proofs.Common.{arith}
use Rattle.std.proofs.lemmas.Grind.{common_steps}
use Rattle.dir_conf.proofs.slapd_conf.statements.read_statements.Goals as goal

pub returns-in_err-statement : goal.returns-in_err-statement
returns-in_err-statement c = grind (arith, common_steps)

pub loop-at-preserved : goal.loop-at-preserved
loop-at-preserved c = grind (arith, common_steps)

pub returns : goal.returns
returns c = grind (arith, common_steps)
