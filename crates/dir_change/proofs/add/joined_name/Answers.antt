use Rattle.std.proofs.Common.{arith}
use Rattle.std.proofs.lemmas.Grind.{common_steps}
use Rattle.dir_change.proofs.add.joined_name.Goals as goal

pub loop-rdn-preserved : goal.loop-rdn-preserved
loop-rdn-preserved c = grind (arith, common_steps)

pub loop-rdn-2-init : goal.loop-rdn-2-init
loop-rdn-2-init c = grind (arith, common_steps)

pub loop-rdn-2-preserved : goal.loop-rdn-2-preserved
loop-rdn-2-preserved c = grind (arith, common_steps)

pub of_rdns-requires : goal.of_rdns-requires
of_rdns-requires c = grind (arith, common_steps)

pub returns-clause-ok : goal.returns-clause-ok
returns-clause-ok c = grind (arith, common_steps)
