use Rattle.std.proofs.Common.{arith}
use Rattle.std.proofs.lemmas.Grind.{common_steps}
use Rattle.dir_acl.proofs.access.target_rules.TargetRules.under_rules.Goals as goal

pub returns-then-not-goes_on-clause-held : goal.returns-then-not-goes_on-clause-held
returns-then-not-goes_on-clause-held g c = grind (arith, common_steps)

pub loop-index-preserved : goal.loop-index-preserved
loop-index-preserved g c = grind (arith, common_steps)

pub returns-clause-held : goal.returns-clause-held
returns-clause-held g c = grind (arith, common_steps)
