use Rattle.std.proofs.Common.{arith}
use Rattle.std.proofs.lemmas.Grind.{common_steps}
use Rattle.dir_conf.proofs.slapd_conf.types_of.Goals as goal

pub returns-in_err-macros-in-Words : goal.returns-in_err-macros-in-Words
returns-in_err-macros-in-Words c = grind (arith, common_steps)

pub loop-statement-preserved : goal.loop-statement-preserved
loop-statement-preserved c = grind (arith, common_steps)

pub returns : goal.returns
returns c = grind (arith, common_steps)
