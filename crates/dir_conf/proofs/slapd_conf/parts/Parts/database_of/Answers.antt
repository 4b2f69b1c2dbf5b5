use Rattle.std.proofs.Common.{arith}
use Rattle.std.proofs.lemmas.Grind.{common_steps}
use Rattle.dir_conf.proofs.slapd_conf.parts.Parts.database_of.Goals as goal

pub returns-in_err-found : goal.returns-in_err-found
returns-in_err-found c = grind (arith, common_steps)

pub returns-in-Some-found : goal.returns-in-Some-found
returns-in-Some-found c = grind (arith, common_steps)

pub returns-in-None-found : goal.returns-in-None-found
returns-in-None-found c = grind (arith, common_steps)
