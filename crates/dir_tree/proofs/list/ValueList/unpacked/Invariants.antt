use Rattle.std.proofs.Common.{◌≡◌, ◌++◌}
use Rattle.dir_tree.specs.Inside.Packed.{values_of}
use Rattle.dir_tree.proofs.list.ValueList.unpacked.Given as goal

abbrev pub invariant-loop-key : goal.invariant-loop-key
invariant-loop-key l = l.list ++ l.key-iterator ≡ values_of l.fn.values
