use Rattle.std.proofs.Common.{◌≡◌, take}
use Rattle.dir_change.specs.Difference.{difference_at}
use Rattle.dir_change.proofs.difference.difference.Given as goal

abbrev pub invariant-loop-key : goal.invariant-loop-key
invariant-loop-key l = l.mods.items ≡ difference_at (take l.key-index l.keys) l.from l.to
