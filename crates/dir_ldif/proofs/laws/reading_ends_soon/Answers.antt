use Rattle.dir_ldif.proofs.ManyCallsLemmas.{run-soon}
use Rattle.dir_ldif.proofs.laws.reading_ends_soon.Goals as goal

pub returns : goal.returns
returns c = run-soon
