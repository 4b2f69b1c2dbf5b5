use Rattle.std.proofs.Common.{◌<◌, length, get_or, set, sym, ap, subst, ◌∙◌}
use Rattle.dir_tree.specs.Inside.AttributeLists.{with_values}
use Rattle.dir_tree.specs.Inside.Pieces.{joined}
use Rattle.dir_tree.proofs.WrittenInPieces.{read, stays, written}
use Rattle.dir_tree.proofs.pieces.Pieces+Attribute.replace_values.Goals as goal

pub invariant_of-self : goal.invariant_of-self
invariant_of-self c = stays c.self.inside.pieces.items _ c.as_slice.ensures.value _ _ c.args.at c.place_at-place.ensures.place c.place_at-place.ensures.inside c.index_mut-attributes.result.now c.index_mut-attributes.ensures.value 1024 _ c.replace_values.new.self c.self.invariant

pub returns-clause-new : goal.returns-clause-new
returns-clause-new c = λ other.
    let pieces = c.self.inside.pieces.items in
    let there : c.args.at < length (joined pieces) = subst (λ values. c.args.at < length values) (sym c.self.view_is) c.requires in
    let old = read pieces _ c.as_slice.ensures.value _ _ c.args.at c.place_at-place.ensures.place c.place_at-place.ensures.inside c.index_mut-attributes.result.now c.index_mut-attributes.ensures.value c.index_mut.result.now other c.index_mut.ensures.value there in
    written pieces _ c.as_slice.ensures.value _ _ c.args.at c.place_at-place.ensures.place c.place_at-place.ensures.inside c.index_mut-attributes.result.now c.index_mut-attributes.ensures.value c.replace_values.new.self
    ∙ ap (λ a. set (joined pieces) c.args.at a) (c.replace_values.ensures.new ∙ ap (λ v. with_values v c.args.values) old)
    ∙ ap (λ row. set row c.args.at (with_values (get_or row c.args.at other) c.args.values)) c.self.view_is

pub returns-clause-old : goal.returns-clause-old
returns-clause-old c = λ other.
    let pieces = c.self.inside.pieces.items in
    let there : c.args.at < length (joined pieces) = subst (λ values. c.args.at < length values) (sym c.self.view_is) c.requires in
    let old = read pieces _ c.as_slice.ensures.value _ _ c.args.at c.place_at-place.ensures.place c.place_at-place.ensures.inside c.index_mut-attributes.result.now c.index_mut-attributes.ensures.value c.index_mut.result.now other c.index_mut.ensures.value there in
    c.replace_values.ensures.old ∙ ap (λ a. a.stored.values) old ∙ ap (λ row. (get_or row c.args.at other).stored.values) c.self.view_is
