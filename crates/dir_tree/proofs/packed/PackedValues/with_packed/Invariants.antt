use Rattle.std.proofs.Common.{◌≡◌, ◌++◌, map, take}
use Rattle.dir_tree.specs.Inside.Packed.{packed_value}
use Rattle.dir_tree.proofs.packed.PackedValues.with_packed.Given as goal

abbrev pub invariant-loop-value : goal.invariant-loop-value
invariant-loop-value l = l.packed ≡ l.fn.self ++ map (packed_value l.others.pool.text.now l.others.pool.names.now) (take l.value-index l.others.values.now)
