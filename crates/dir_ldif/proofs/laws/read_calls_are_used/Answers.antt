use Rattle.dir_ldif.proofs.ManyCallsLemmas.{run-uses}
use Rattle.dir_ldif.proofs.laws.read_calls_are_used.Goals as goal

pub returns : goal.returns
returns c = run-uses
