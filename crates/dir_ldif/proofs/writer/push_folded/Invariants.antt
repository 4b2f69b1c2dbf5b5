use Rattle.std.proofs.Common.{◌≡◌, ◌++◌, ◌+◌, ◌-◌, ◌*◌, ◌≤◌, ℕ, List, length}
use Rattle.std.specs.Io.{StartsWith}
use Rattle.dir_ldif.specs.LineText.{fold_from}
use Rattle.dir_ldif.proofs.writer.push_folded.Given as goal

abbrev pub invariant-loop-room : goal.invariant-loop-room
invariant-loop-room l =
    (l.room ≤ 76) × ((rest : List ℕ) → l.out.items ++ fold_from l.room (l.rest ++ rest) ≡ l.fn.out.items ++ fold_from l.fn.room (l.text ++ rest))
    × StartsWith l.out.items l.fn.out.items

abbrev pub decreases-loop-room : goal.decreases-loop-room
decreases-loop-room l = 2 * length l.rest + (75 - l.room)
