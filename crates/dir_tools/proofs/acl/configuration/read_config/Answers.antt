use Rattle.std.proofs.Common.{arith}
use Rattle.std.proofs.lemmas.Grind.{common_steps}
use Rattle.dir_tools.proofs.acl.configuration.read_config.Goals as goal

pub returns-clause-fault : goal.returns-clause-fault
returns-clause-fault g c = grind (arith, common_steps)
