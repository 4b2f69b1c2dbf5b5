use Rattle.std.proofs.Common.{arith}
use Rattle.std.proofs.lemmas.Grind.{common_steps}
use Rattle.dir_acl.proofs.access.Rule.trial.Goals as goal

pub returns-then-not-is_for-clause-fits : goal.returns-then-not-is_for-clause-fits
returns-then-not-is_for-clause-fits c = grind (arith, common_steps)

pub returns-then-not-is_for-clause-known : goal.returns-then-not-is_for-clause-known
returns-then-not-is_for-clause-known c = grind (arith, common_steps)

pub returns-then-index-len-clause-fits : goal.returns-then-index-len-clause-fits
returns-then-index-len-clause-fits c = grind (arith, common_steps)

pub returns-then-index-len-clause-known : goal.returns-then-index-len-clause-known
returns-then-index-len-clause-known c = grind (arith, common_steps)

pub returns-else-index-len-clause-fits : goal.returns-else-index-len-clause-fits
returns-else-index-len-clause-fits c = grind (arith, common_steps)

pub loop-index-preserved : goal.loop-index-preserved
loop-index-preserved c = grind (arith, common_steps)

pub returns-clause-fits : goal.returns-clause-fits
returns-clause-fits c = grind (arith, common_steps)

pub returns-clause-known : goal.returns-clause-known
returns-clause-known c = grind (arith, common_steps)
