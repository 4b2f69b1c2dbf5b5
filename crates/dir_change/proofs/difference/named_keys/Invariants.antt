use Rattle.std.proofs.Common.{◌≡◌, map, take}
use Rattle.dir_names.specs.Orders.{attr_cmp}
use Rattle.dir_names.specs.Sorted.{set_of}
use Rattle.dir_change.proofs.difference.named_keys.Given as goal

abbrev pub invariant-loop-m : goal.invariant-loop-m
invariant-loop-m l = l.keys.items ≡ set_of attr_cmp (map (λ m. m.description.key) (take l.m-index l.mods))
