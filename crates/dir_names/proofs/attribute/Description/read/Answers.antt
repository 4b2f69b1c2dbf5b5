use Rattle.std.proofs.Common.{arith}
use Rattle.std.proofs.lemmas.Grind.{common_steps}
use Rattle.dir_names.proofs.attribute.Description.read.Goals as goal

pub returns-then-text-gt-MAX_DESCRIPTION : goal.returns-then-text-gt-MAX_DESCRIPTION
returns-then-text-gt-MAX_DESCRIPTION c = grind (arith, common_steps)
