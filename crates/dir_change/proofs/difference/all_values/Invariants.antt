use Rattle.std.proofs.Common.{◌≡◌, ◌++◌}
use Rattle.std.specs.FinMap as fin
use Rattle.dir_change.specs.Difference.{bytes_of}
use Rattle.dir_change.proofs.difference.all_values.Given as goal

abbrev pub invariant-loop-bytes : goal.invariant-loop-bytes
invariant-loop-bytes l = l.values.items ++ bytes_of l.bytes-iterator ≡ bytes_of (fin.entries l.attribute.stored.values)
