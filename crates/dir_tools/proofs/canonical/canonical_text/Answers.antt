use Rattle.std.proofs.Common.{arith}
use Rattle.std.proofs.lemmas.Grind.{common_steps}
use Rattle.dir_tools.proofs.canonical.canonical_text.Goals as goal

pub loop-name-preserved-in_ok-push_entry : goal.loop-name-preserved-in_ok-push_entry
loop-name-preserved-in_ok-push_entry g c = grind (arith, common_steps)

pub loop-name-preserved : goal.loop-name-preserved
loop-name-preserved g c = grind (arith, common_steps)

pub returns : goal.returns
returns g c = grind (arith, common_steps)
