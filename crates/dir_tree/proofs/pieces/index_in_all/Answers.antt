use Rattle.std.proofs.Common.{◌≡◌, Ok, Err, length, take, subst, arith}
use Rattle.dir_tree.specs.Inside.Pieces.{IsSearchInPiece, joined, piece_items}
use Rattle.dir_tree.proofs.FoundInPieces.{found_in_range}
use Rattle.dir_tree.proofs.Pieced.{length-front}
use Rattle.dir_tree.proofs.pieces.index_in_all.Goals as goal

pub count-before-requires : goal.count-before-requires
count-before-requires g c = omega (arith, length-front piece_items c.args.pieces.now c.args.piece, c.requires.len)

pub overflow_add-result : goal.overflow_add-result
overflow_add-result g c =
    let size : c.count-before.result ≡ length (joined (take c.args.piece c.args.pieces.now)) = c.count-before.ensures in
    omega (arith, size, found_in_range c.args.pieces.now c.args.piece c.requires.piece (Ok c.in-Ok.within) (subst (IsSearchInPiece c.args.pieces.now c.args.piece) c.in-Ok.is c.requires.found), c.requires.len)

pub overflow_add-result-in-Err : goal.overflow_add-result-in-Err
overflow_add-result-in-Err g c =
    let size : c.count-before.result ≡ length (joined (take c.args.piece c.args.pieces.now)) = c.count-before.ensures in
    omega (arith, size, found_in_range c.args.pieces.now c.args.piece c.requires.piece (Err c.in-Err.within) (subst (IsSearchInPiece c.args.pieces.now c.args.piece) c.in-Err.is c.requires.found), c.requires.len)

pub returns-in-Ok-clause-range : goal.returns-in-Ok-clause-range
returns-in-Ok-clause-range g c =
    let size : c.count-before.result ≡ length (joined (take c.args.piece c.args.pieces.now)) = c.count-before.ensures in
    omega (arith, size, found_in_range c.args.pieces.now c.args.piece c.requires.piece (Ok c.in-Ok.within) (subst (IsSearchInPiece c.args.pieces.now c.args.piece) c.in-Ok.is c.requires.found))

pub returns-in-Err-clause-range : goal.returns-in-Err-clause-range
returns-in-Err-clause-range g c =
    let size : c.count-before.result ≡ length (joined (take c.args.piece c.args.pieces.now)) = c.count-before.ensures in
    omega (arith, size, found_in_range c.args.pieces.now c.args.piece c.requires.piece (Err c.in-Err.within) (subst (IsSearchInPiece c.args.pieces.now c.args.piece) c.in-Err.is c.requires.found))
