use Rattle.std.proofs.Common.{◌≡◌, ◌++◌, drop}
use Rattle.std.specs.List.{flat_map}
use Rattle.dir_conf_text.specs.Quoting.{escaped}
use Rattle.dir_conf_text.proofs.quoting.push_escaped.Given as goal

abbrev pub invariant-loop-b : goal.invariant-loop-b
invariant-loop-b l = l.line.items ++ flat_map escaped (drop l.b-index l.argument) ≡ l.initial.line.items ++ flat_map escaped l.argument
