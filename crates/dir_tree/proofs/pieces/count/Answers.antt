use Rattle.std.proofs.Common.{arith, ap, length}
use Rattle.dir_tree.specs.Inside.Pieces.{piece_items}
use Rattle.dir_tree.proofs.Pieced.{length-before}
use Rattle.dir_tree.proofs.pieces.count.Goals as goal

pub overflow_add-values : goal.overflow_add-values
overflow_add-values g c =
    let piece = c.piece-item.result in
    let within = length-before piece_items c.args.pieces.now c.loop-piece.piece-index piece c.loop-piece-test.true in
    let here = ap (λ values. length (piece_items values)) c.piece-item.is in
    omega (arith, within, here, c.requires, c.loop-piece.invariant, c.len-values.ensures, piece.ok.0)
