use Rattle.std.proofs.Common.{◌≡◌, drop}
use Rattle.dir_names.specs.Orders.{bytes_cmp}
use Rattle.dir_names.proofs.list.short.cmp_short.Given as goal

abbrev pub invariant-loop-at : goal.invariant-loop-at
invariant-loop-at l = bytes_cmp (drop l.at l.one) (drop l.at l.other) ≡ bytes_cmp l.one l.other
