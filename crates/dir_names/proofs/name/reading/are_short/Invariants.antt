use Rattle.std.proofs.Common.{◌≡◌, ◌+◌, ◌≤◌, drop}
use Rattle.dir_names.proofs.PrintedLengths.{room}
use Rattle.dir_names.proofs.name.reading.are_short.Given as goal

abbrev pub invariant-loop-pair : goal.invariant-loop-pair
invariant-loop-pair l = (l.room ≤ 4096) × (room l.pairs + l.room ≡ 4096 + room (drop l.pair-index l.pairs))
