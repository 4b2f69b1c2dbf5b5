use Rattle.std.proofs.Common.{◌≡◌, ◌<◌, ◌-◌, length, get_or, Err, refl, sym, ap, ◌∙◌, arith}
use Rattle.std.proofs.lemmas.Bool.Decides.{nat_tests}
use Rattle.std.proofs.lemmas.List.{get_or_read_under}
use Rattle.std.specs.Ordering.{is_lt}
use Rattle.dir_names.specs.Values.{value_key_cmp}
use Rattle.dir_tree.specs.Inside.Searches.{sought_key}
use Rattle.dir_tree.specs.Inside.Stored.{are_rising}
use Rattle.dir_tree.specs.Inside.Pieces.{piece_items}
use Rattle.dir_tree.proofs.BelowAll.{after_pieces, place_among}
use Rattle.dir_tree.proofs.pieces.Pieces+StoredValue.is_below.Goals as goal

pub returns-else-is_empty : goal.returns-else-is_empty
returns-else-is_empty c is =
    let pieces = c.self.inside.pieces.items in
    let row = c.as_slice-pieces.result.now in
    let key = sought_key c.args.sought.now in
    let some = c.if-is_empty.ensures in
    let there : length row - 1 < length row = grind (arith, nat_tests) in
    ap (place_among key) (sym c.self.view_is)
    ∙ after_pieces key 1024 pieces c.self.invariant.1 (ap are_rising c.self.view_is ∙ c.requires)
    (λ d e.
    let last : get_or pieces (length pieces - 1) d ≡ c.index-pieces-pieces.result =
    ap (λ row. get_or row (length row - 1) d) (sym c.as_slice-pieces.ensures.value) ∙ sym (get_or_read_under row (length row - 1) (length row) c.index-pieces-pieces.result d c.index-pieces-pieces.is there refl) in
    ap (λ values. is_lt (value_key_cmp (get_or values (length values - 1) e).0 key)) (ap piece_items last ∙ sym c.as_slice.ensures.value) ∙ sym (c.ends_below.ensures e) ∙ is)
    ∙ ap (λ values. Err (length values)) c.self.view_is
