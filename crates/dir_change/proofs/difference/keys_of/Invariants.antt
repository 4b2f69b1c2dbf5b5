use Rattle.std.proofs.Common.{◌≡◌, map, take}
use Rattle.dir_change.proofs.difference.keys_of.Given as goal

abbrev pub invariant-loop-m : goal.invariant-loop-m
invariant-loop-m l = l.keys.items ≡ map (λ m. m.description.key) (take l.m-index l.mods)
