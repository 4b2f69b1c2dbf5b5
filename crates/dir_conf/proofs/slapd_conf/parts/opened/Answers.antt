use Rattle.std.proofs.Common.{arith}
use Rattle.std.proofs.lemmas.Grind.{common_steps}
use Rattle.dir_conf.proofs.slapd_conf.parts.opened.Goals as goal

pub returns : goal.returns
returns c = grind (arith, common_steps)
