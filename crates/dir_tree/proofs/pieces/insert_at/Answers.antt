use Rattle.std.proofs.Common.{Err, Ok, Result, ap, sym, ◌∙◌, ◌++◌}
use Rattle.std.specs.List.{insert}
use Rattle.std.specs.Result.{OnErr}
use Rattle.dir_tree.specs.Inside.Pieces.{piece_items}
use Rattle.dir_tree.proofs.Pieced.{after, before, flat_map-set, flat_map_at, insert_in}
use Rattle.dir_tree.proofs.pieces.insert_at.Goals as goal

on_err : {X E P : Type 0} (r : Result X E) → P → OnErr r P
on_err (Ok x) p = tt
on_err (Err e) p = p

pub returns-in_err-insert-clause-err : goal.returns-in_err-insert-clause-err
returns-in_err-insert-clause-err g c =
    let pieces = c.args.pieces.now.items in
    let piece = c.args.place.piece in
    let values = c.index_mut-values.result.now in
    let there = c.requires.1.there in
    on_err c.from_residual.result
    (flat_map-set piece_items pieces piece c.insert.new.self there
    ∙ ap (λ items. before piece_items pieces piece ++ (items ++ after piece_items pieces piece)) (c.in_err-insert.ensures.items ∙ ap piece_items c.index_mut-values.ensures.value)
    ∙ sym (flat_map_at piece_items pieces piece values there))

pub returns-clause-ok : goal.returns-clause-ok
returns-clause-ok g c = λ at place.
    let values = c.index_mut-values.result.now in
    insert_in piece_items c.args.pieces.now.items c.args.place.piece c.args.place.within at values c.insert.new.self place.there place.is c.args.value (place.fits values)
    (c.in_ok-insert.ensures.items ∙ ap (λ piece. insert (piece_items piece) c.args.place.within c.args.value) c.index_mut-values.ensures.value)
