use Rattle.std.proofs.Common.{◌+◌, sym, ap, ◌∙◌, drop, arith}
use Rattle.std.specs.Option.{option_copied}
use Rattle.dir_acl.specs.Inside.FirstPiece.{after_piece}
use Rattle.dir_acl.proofs.Cuts.{found_after, middles_at, middles_end}
use Rattle.dir_acl.proofs.filter.substrings.has_middles.Goals as goal

pub returns-in-None : goal.returns-in-None
returns-in-None c =
    let middle = c.args.middle.now in
    let last = c.args.last.now in
    let rest = c.loop-piece.rest.now in
    let i = c.loop-piece.piece-index in
    let so_far = c.loop-piece.invariant ∙ middles_at middle last rest i c.piece-item.result (omega arith) c.piece-item.is in
    let searched = ap (λ p. after_piece p rest) (sym c.as_slice.ensures) ∙ sym c.after_piece.ensures ∙ ap option_copied c.in-None.is in
    sym (so_far ∙ ap (λ o. found_after o (drop (i + 1) middle) last) searched)

pub loop-piece-preserved : goal.loop-piece-preserved
loop-piece-preserved c =
    let middle = c.args.middle.now in
    let last = c.args.last.now in
    let rest = c.loop-piece.rest.now in
    let i = c.loop-piece.piece-index in
    let so_far = c.loop-piece.invariant ∙ middles_at middle last rest i c.piece-item.result (omega arith) c.piece-item.is in
    let searched = ap (λ p. after_piece p rest) (sym c.as_slice.ensures) ∙ sym c.after_piece.ensures ∙ ap option_copied c.in-Some.is in
    so_far ∙ ap (λ o. found_after o (drop (i + 1) middle) last) searched

pub returns : goal.returns
returns c =
    c.ends_with.ensures.value
    ∙ sym (c.loop-piece.invariant ∙ middles_end c.args.middle.now c.args.last.now c.loop-piece.rest.now c.loop-piece.piece-index (omega arith))
