use Rattle.std.proofs.Common.{◌+◌, get_or, set, take, drop, ap, ◌∙◌}
use Rattle.std.specs.List.{insert}
use Rattle.std.proofs.lemmas.List.{get_or_default}
use Rattle.dir_tree.specs.Inside.Pieces.{piece_items}
use Rattle.dir_tree.proofs.pieces.split.Goals as goal

pub returns-clause-ok : goal.returns-clause-ok
returns-clause-ok g c =
    let pieces = c.args.pieces.now.items in
    let piece = c.args.piece in
    let values = c.index_mut-values.result.now in
    let front = c.split_off.new.self in
    let back = c.in_ok-rest.rest in
    let here = c.index_mut-values.ensures.value ∙ ap (λ row. get_or row piece values) c.reserve.ensures.items in
    record {
      front = front;
      back = back;
      pieces = c.in-Ok.ensures.items ∙ ap (λ row. insert (set row piece front) (piece + 1) back) c.reserve.ensures.items;
      front_values = λ d. c.in_ok-rest.ensures.items ∙ ap (λ p. take c.args.at (piece_items p)) (here ∙ get_or_default pieces piece values d c.requires.piece);
      back_values = λ d. c.in_ok-rest.ensures.tail ∙ ap (λ p. drop c.args.at (piece_items p)) (here ∙ get_or_default pieces piece values d c.requires.piece);
    }
