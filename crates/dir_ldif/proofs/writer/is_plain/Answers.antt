use Rattle.std.proofs.Common.{arith}
use Rattle.std.proofs.lemmas.Grind.{common_steps}
use Rattle.dir_ldif.proofs.writer.is_plain.Goals as goal

pub returns-then-all_safe : goal.returns-then-all_safe
returns-then-all_safe c = grind (arith, common_steps)

pub returns-else-all_safe : goal.returns-else-all_safe
returns-else-all_safe c = grind (arith, common_steps)
