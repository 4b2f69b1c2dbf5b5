use Rattle.std.proofs.Common.{get_or, sym, ap, subst, ◌∙◌}
use Rattle.dir_tree.specs.Inside.Pieces.{IsInside, IsPlace, piece_items}
use Rattle.dir_tree.proofs.Pieced.{get_in}
use Rattle.dir_tree.proofs.pieces.Pieces.get.Goals as goal

pub returns : goal.returns
returns g c =
    let pieces = c.self.inside.pieces.items in
    let piece = c.place_at-place.result.piece in
    let within = c.place_at-place.result.within in
    let found = c.index-2.result.now in
    let place = subst (λ row. IsPlace row piece within c.args.at) c.as_slice.ensures.value c.place_at-place.ensures.place in
    let inside = subst (λ row. IsInside row piece within) c.as_slice.ensures.value c.place_at-place.ensures.inside in
    c.index-2.ensures ∙ ap (λ values. get_or (piece_items values) within found) c.index.ensures
    ∙ sym (get_in piece_items pieces piece within c.args.at c.index.result.now found place.there (inside c.index.result.now) place.is)
    ∙ ap (λ values. get_or values c.args.at found) c.self.view_is
