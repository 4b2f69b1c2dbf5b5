use Rattle.std.proofs.Common.{◌≡◌, length, get_or, set, ap, sym, ◌∙◌, arith}
use Rattle.std.specs.List.{remove}
use Rattle.std.proofs.lemmas.Bool.{eqb-true}
use Rattle.std.proofs.lemmas.List.{get_or-set_same, length-set, nil_from_length}
use Rattle.dir_tree.specs.Inside.Pieces.{joined, piece_items}
use Rattle.dir_tree.proofs.Pieced.{flat_map-remove_empty, get_in, remove_in}
use Rattle.dir_tree.proofs.pieces.remove_at.Goals as goal

pub returns-then-is_empty-clause-value : goal.returns-then-is_empty-clause-value
returns-then-is_empty-clause-value g c = λ at place.
    let values = c.index_mut-values.result.now in
    c.remove-value.ensures.value
    ∙ ap (λ piece. get_or (piece_items piece) c.args.place.within c.remove-value.result) c.index_mut-values.ensures.value
    ∙ sym (get_in piece_items c.args.pieces.now.items c.args.place.piece c.args.place.within at values c.remove-value.result c.requires.piece (c.requires.inside values) place.is)

pub returns-else-is_empty-clause-value : goal.returns-else-is_empty-clause-value
returns-else-is_empty-clause-value g c = λ at place.
    let values = c.index_mut-values.result.now in
    c.remove-value.ensures.value
    ∙ ap (λ piece. get_or (piece_items piece) c.args.place.within c.remove-value.result) c.index_mut-values.ensures.value
    ∙ sym (get_in piece_items c.args.pieces.now.items c.args.place.piece c.args.place.within at values c.remove-value.result c.requires.piece (c.requires.inside values) place.is)

pub returns-else-is_empty-clause-rest : goal.returns-else-is_empty-clause-rest
returns-else-is_empty-clause-rest g c = λ at place.
    let values = c.index_mut-values.result.now in
    remove_in piece_items c.args.pieces.now.items c.args.place.piece c.args.place.within at values c.remove-value.new.self c.requires.piece place.is (c.requires.inside values)
    (c.remove-value.ensures.items ∙ ap (λ piece. remove (piece_items piece) c.args.place.within) c.index_mut-values.ensures.value)

pub returns-then-is_empty-clause-rest : goal.returns-then-is_empty-clause-rest
returns-then-is_empty-clause-rest g c = λ at place.
    let pieces = c.args.pieces.now.items in
    let piece = c.args.place.piece in
    let values = c.index_mut-values.result.now in
    let left = c.remove-value.new.self in
    let there = c.requires.piece in
    let none : length left.items ≡ 0 = omega (arith, eqb-true left.len 0 (sym c.if-is_empty.ensures), left.ok.0) in
    let size = length-set pieces piece left in
    ap joined c.remove.ensures.items
    ∙ flat_map-remove_empty piece_items (set pieces piece left) piece left (omega arith) (ap piece_items (get_or-set_same pieces piece left left there) ∙ nil_from_length left.items none)
    ∙ remove_in piece_items pieces piece c.args.place.within at values left there place.is (c.requires.inside values)
    (c.remove-value.ensures.items ∙ ap (λ piece. remove (piece_items piece) c.args.place.within) c.index_mut-values.ensures.value)
