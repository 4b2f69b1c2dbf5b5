use Rattle.std.proofs.Common.{◌≡◌, take}
use Rattle.dir_names.specs.Orders.{attr_cmp}
use Rattle.dir_names.specs.Sorted.{set_of}
use Rattle.dir_change.proofs.difference.distinct_keys.Given as goal

abbrev pub invariant-loop-key : goal.invariant-loop-key
invariant-loop-key l = l.keys.items ≡ set_of attr_cmp (take l.key-index l.all)
