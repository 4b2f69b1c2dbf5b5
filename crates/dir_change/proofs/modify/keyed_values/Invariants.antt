use Rattle.std.proofs.Common.{◌≡◌, drop}
use Rattle.dir_names.specs.Results.{option_collect}
use Rattle.dir_names.proofs.AllLemmas.{prefixed}
use Rattle.dir_change.specs.Modify.{keyed_value, keyed_values}
use Rattle.dir_change.proofs.modify.keyed_values.Given as goal

abbrev pub invariant-loop-value : goal.invariant-loop-value
invariant-loop-value l = keyed_values l.schema l.m.description.key l.m.values ≡ prefixed l.given.items (option_collect (keyed_value l.schema l.m.description.key) (drop l.value-index l.value-items))
