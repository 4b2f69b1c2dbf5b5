use Rattle.std.proofs.Common.{arith}
use Rattle.std.proofs.lemmas.Grind.{common_steps}
use Rattle.dir_acl.proofs.access.decision.after_clauses.Goals as goal

pub returns-in-Stop-clause-held : goal.returns-in-Stop-clause-held
returns-in-Stop-clause-held g c = grind (arith, common_steps)

pub returns-in-Stop-clause-goes_on : goal.returns-in-Stop-clause-goes_on
returns-in-Stop-clause-goes_on g c = grind (arith, common_steps)

pub returns-in-Break-clause-held : goal.returns-in-Break-clause-held
returns-in-Break-clause-held g c = grind (arith, common_steps)

pub returns-in-Break-clause-goes_on : goal.returns-in-Break-clause-goes_on
returns-in-Break-clause-goes_on g c = grind (arith, common_steps)

pub loop-clause-preserved : goal.loop-clause-preserved
loop-clause-preserved g c = grind (arith, common_steps)

pub returns-clause-held : goal.returns-clause-held
returns-clause-held g c = grind (arith, common_steps)

pub returns-clause-goes_on : goal.returns-clause-goes_on
returns-clause-goes_on g c = grind (arith, common_steps)
