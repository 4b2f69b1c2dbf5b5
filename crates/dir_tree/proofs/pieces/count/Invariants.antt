use Rattle.std.proofs.Common.{◌≡◌, length, take}
use Rattle.dir_tree.specs.Inside.Pieces.{joined}
use Rattle.dir_tree.proofs.pieces.count.Given as goal

abbrev pub invariant-loop-piece : goal.invariant-loop-piece
invariant-loop-piece g l = l.values ≡ length (joined (take l.piece-index l.pieces))
