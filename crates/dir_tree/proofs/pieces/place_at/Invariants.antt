use Rattle.std.proofs.Common.{◌≡◌, ◌+◌, length, take}
use Rattle.dir_tree.specs.Inside.Pieces.{joined}
use Rattle.dir_tree.proofs.pieces.place_at.Given as goal

abbrev pub invariant-loop-piece : goal.invariant-loop-piece
invariant-loop-piece g l = l.at ≡ length (joined (take l.piece l.pieces)) + l.within
