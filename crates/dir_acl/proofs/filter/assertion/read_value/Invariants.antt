use Rattle.std.proofs.Common.{drop}
use Rattle.dir_acl.proofs.EscapeSteps.{Reads}
use Rattle.dir_acl.proofs.filter.assertion.read_value.Given as goal

abbrev pub invariant-loop-b : goal.invariant-loop-b
invariant-loop-b l = Reads l.text l.out.items l.place (drop l.b-index l.text)
