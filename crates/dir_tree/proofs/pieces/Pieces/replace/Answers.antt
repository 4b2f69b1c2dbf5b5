use Rattle.std.proofs.Common.{◌<◌, length, get_or, set, sym, ap, subst, ◌∙◌}
use Rattle.dir_tree.specs.Inside.Pieces.{joined}
use Rattle.dir_tree.proofs.WrittenInPieces.{read, stays, written}
use Rattle.dir_tree.proofs.pieces.Pieces.replace.Goals as goal

pub invariant_of-self : goal.invariant_of-self
invariant_of-self g c = stays c.self.inside.pieces.items _ c.as_slice.ensures.value _ _ c.args.at c.place_at-place.ensures.place c.place_at-place.ensures.inside c.index_mut-values.result.now c.index_mut-values.ensures.value 1024 _ c.replace.new.dest c.self.invariant

pub returns-clause-old : goal.returns-clause-old
returns-clause-old g c =
    let pieces = c.self.inside.pieces.items in
    let there : c.args.at < length (joined pieces) = subst (λ values. c.args.at < length values) (sym c.self.view_is) c.requires in
    c.replace.ensures.value
    ∙ read pieces _ c.as_slice.ensures.value _ _ c.args.at c.place_at-place.ensures.place c.place_at-place.ensures.inside c.index_mut-values.result.now c.index_mut-values.ensures.value c.index_mut.result.now c.replace.result c.index_mut.ensures.value there
    ∙ ap (λ row. get_or row c.args.at c.replace.result) c.self.view_is

pub returns-clause-new : goal.returns-clause-new
returns-clause-new g c =
    let pieces = c.self.inside.pieces.items in
    written pieces _ c.as_slice.ensures.value _ _ c.args.at c.place_at-place.ensures.place c.place_at-place.ensures.inside c.index_mut-values.result.now c.index_mut-values.ensures.value c.replace.new.dest
    ∙ ap (λ a. set (joined pieces) c.args.at a) c.replace.ensures.after
    ∙ ap (λ row. set row c.args.at c.args.value) c.self.view_is
