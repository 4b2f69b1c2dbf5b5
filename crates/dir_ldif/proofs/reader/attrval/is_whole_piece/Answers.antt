use Rattle.std.proofs.Common.{◌∙◌, sym, arith}
use Rattle.base64.specs.GeneralPurpose.{IsBytes}
use Rattle.dir_ldif.proofs.Base64Lemmas.{other_piece, piece_told}
use Rattle.dir_ldif.proofs.reader.attrval.is_whole_piece.Goals as goal

pub returns-in-Ok : goal.returns-in-Ok
returns-in-Ok c rest rb some =
    let pb : IsBytes c.args.piece.now = λ i. let fits = c.type_inv.piece i in omega arith in
    let ok = c.in-Ok.ensures.ok in
    piece_told c.args.piece.now rest _ c.decode_slice_unchecked.new.output c.in-Ok.length pb rb c.requires some (omega (arith, ok.2)) ok

pub returns-in-Err : goal.returns-in-Err
returns-in-Err c rest rb some =
    let pb : IsBytes c.args.piece.now = λ i. let fits = c.type_inv.piece i in omega arith in
    other_piece c.args.piece.now rest pb rb c.requires some (λ a e la. cc (sym c.in-Err.ensures.err ∙ e))
