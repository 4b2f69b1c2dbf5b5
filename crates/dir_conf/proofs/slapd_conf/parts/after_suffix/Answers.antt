use Rattle.std.proofs.Common.{arith}
use Rattle.std.proofs.lemmas.Grind.{common_steps}
use Rattle.dir_conf.proofs.slapd_conf.parts.after_suffix.Goals as goal

pub returns-in_err-suffix : goal.returns-in_err-suffix
returns-in_err-suffix c = grind (arith, common_steps)

pub returns : goal.returns
returns c = grind (arith, common_steps)
