use Rattle.std.proofs.Common.{◌≡◌, take}
use Rattle.dir_tree.specs.Inside.Pieces.{AreFilled, joined}
use Rattle.dir_tree.proofs.pieces.Pieces.try_clone.Given as goal

abbrev pub invariant-loop-piece : goal.invariant-loop-piece
invariant-loop-piece g l = (joined l.pieces.items ≡ joined (take l.piece-index l.piece-items)) × AreFilled 1024 l.pieces.items
