use Rattle.std.proofs.Common.{drop}
use Rattle.dir_names.proofs.ValueSteps.{Reads}
use Rattle.dir_names.proofs.name.reading.read_value.Given as goal

abbrev pub invariant-loop-b : goal.invariant-loop-b
invariant-loop-b l = Reads l.text l.out.items l.kept l.place (drop l.b-index l.text)
