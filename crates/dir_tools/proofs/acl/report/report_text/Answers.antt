use Rattle.std.proofs.Common.{arith}
use Rattle.std.proofs.lemmas.Grind.{common_steps}
use Rattle.dir_tools.proofs.acl.report.report_text.Goals as goal

pub loop-word-preserved : goal.loop-word-preserved
loop-word-preserved g c = grind (arith, common_steps)

pub returns : goal.returns
returns g c = grind (arith, common_steps)
