use Rattle.dir_acl.proofs.Cuts.{pieces_fact, pieces_test}
use Rattle.dir_acl.proofs.laws.cuts_are_found.Goals as goal

pub returns-clause-found : goal.returns-clause-found
returns-clause-found c = pieces_test

pub returns-clause-there : goal.returns-clause-there
returns-clause-there c = pieces_fact
