use Rattle.std.proofs.Common.{◌≡◌, ◌++◌}
use Rattle.std.specs.FinMap as fin
use Rattle.dir_tree.proofs.packed.PackedValues.with_map.Given as goal

abbrev pub invariant-loop-value : goal.invariant-loop-value
invariant-loop-value l = l.packed ++ l.value-iterator ≡ l.fn.self ++ fin.entries l.map
