use Rattle.std.proofs.Common.{◌<◌, length, sym, ap, subst, arith}
use Rattle.std.proofs.lemmas.List.Edits.{length-remove}
use Rattle.dir_tree.specs.Inside.Pieces.{IsPlace, joined}
use Rattle.dir_tree.proofs.pieces.Pieces.remove.Goals as goal

pub invariant_of-self : goal.invariant_of-self
invariant_of-self g c =
    let pieces = c.self.inside.pieces.items in
    let piece = c.place_at-place.result.piece in
    let within = c.place_at-place.result.within in
    let place = subst (λ row. IsPlace row piece within c.args.at) c.as_slice.ensures.value c.place_at-place.ensures.place in
    let left = ap length (c.remove_at-value.ensures.rest c.args.at place) in
    let there : c.args.at < length (joined pieces) = subst (λ values. c.args.at < length values) (sym c.self.view_is) c.requires in
    (omega (arith, left, c.self.invariant.0, length-remove (joined pieces) c.args.at there), c.remove_at-value.ensures.filled c.self.invariant.1)
