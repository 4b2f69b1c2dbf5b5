use Rattle.dir_ldif.proofs.ManyCallsLemmas.{run-stops}
use Rattle.dir_ldif.proofs.laws.reading_stops_there.Goals as goal

pub returns : goal.returns
returns c = run-stops
