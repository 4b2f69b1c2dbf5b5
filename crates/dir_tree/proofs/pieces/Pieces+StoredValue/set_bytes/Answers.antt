use Rattle.std.proofs.Common.{◌<◌, length, get_or, set, sym, ap, subst, ◌∙◌}
use Rattle.dir_tree.specs.Inside.Pieces.{joined}
use Rattle.dir_tree.proofs.WrittenInPieces.{read, stays, written}
use Rattle.dir_tree.proofs.pieces.Pieces+StoredValue.set_bytes.Goals as goal

pub invariant_of-self : goal.invariant_of-self
invariant_of-self c = stays c.self.inside.pieces.items _ c.as_slice.ensures.value _ _ c.args.at c.place_at-place.ensures.place c.place_at-place.ensures.inside c.index_mut-values.result.now c.index_mut-values.ensures.value 1024 _ c.set_bytes.new.self c.self.invariant

pub returns : goal.returns
returns c = λ other.
    let pieces = c.self.inside.pieces.items in
    let there : c.args.at < length (joined pieces) = subst (λ values. c.args.at < length values) (sym c.self.view_is) c.requires in
    let old = read pieces _ c.as_slice.ensures.value _ _ c.args.at c.place_at-place.ensures.place c.place_at-place.ensures.inside c.index_mut-values.result.now c.index_mut-values.ensures.value c.index_mut.result.now other c.index_mut.ensures.value there in
    written pieces _ c.as_slice.ensures.value _ _ c.args.at c.place_at-place.ensures.place c.place_at-place.ensures.inside c.index_mut-values.result.now c.index_mut-values.ensures.value c.set_bytes.new.self
    ∙ ap (λ a. set (joined pieces) c.args.at a) (c.set_bytes.ensures ∙ ap (λ v. (v.0, c.args.bytes)) old)
    ∙ ap (λ row. set row c.args.at ((get_or row c.args.at other).0, c.args.bytes)) c.self.view_is
