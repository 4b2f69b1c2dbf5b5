use Rattle.std.proofs.Common.{◌<◌, [], Err, length, take, refl, sym, ap, subst, ◌∙◌, arith}
use Rattle.dir_tree.specs.Inside.Searches.{sought_key}
use Rattle.dir_tree.specs.Inside.Stored.{are_rising}
use Rattle.dir_tree.specs.Inside.Pieces.{after_elements, IsPieceFor, joined, piece_items}
use Rattle.dir_names.specs.Values.{value_key_cmp, value_key_cmp_total}
use Rattle.dir_tree.proofs.BelowAll.{key_of_value, place_among}
use Rattle.dir_tree.proofs.FoundInPieces.{found_in, found_past, rising_in}
use Rattle.dir_tree.proofs.pieces.Pieces+StoredValue.find.Goals as goal

pub returns-then-piece-len-clause-place : goal.returns-then-piece-len-clause-place
returns-then-piece-len-clause-place c =
    let pieces = c.self.inside.pieces.items in
    let key = sought_key c.args.sought.now in
    let belongs = subst (λ row. IsPieceFor value_key_cmp key_of_value row key c.piece_for-piece.result) c.as_slice.ensures.value c.piece_for-piece.ensures in
    ap (λ n. Err n) (c.len-len.ensures ∙ ap length (sym c.self.view_is))
    ∙ sym (found_past value_key_cmp_total key_of_value key 1024 pieces c.piece_for-piece.result belongs c.self.invariant.1 (ap are_rising c.self.view_is ∙ c.requires) (key, []) (omega (arith, c.if-piece-len.true, c.len.ensures, c.self.inside.pieces.ok.0)))
    ∙ ap (place_among key) c.self.view_is

pub place_of-found-requires : goal.place_of-found-requires
place_of-found-requires c =
    let pieces = c.self.inside.pieces.items in
    let key = sought_key c.args.sought.now in
    let belongs = subst (λ row. IsPieceFor value_key_cmp key_of_value row key c.piece_for-piece.result) c.as_slice.ensures.value c.piece_for-piece.ensures in
    let there : c.piece_for-piece.result < length pieces = omega (arith, belongs.there, c.if-piece-len.false, c.len.ensures, c.self.inside.pieces.ok.0) in
    ap are_rising (c.as_slice-2.ensures.value ∙ ap piece_items c.index.ensures) ∙ rising_in value_key_cmp_total key_of_value key 1024 pieces c.piece_for-piece.result belongs c.self.invariant.1 (ap are_rising c.self.view_is ∙ c.requires) c.index.result.now there

pub returns-clause-place : goal.returns-clause-place
returns-clause-place c =
    let pieces = c.self.inside.pieces.items in
    let piece = c.piece_for-piece.result in
    let key = sought_key c.args.sought.now in
    let belongs = subst (λ row. IsPieceFor value_key_cmp key_of_value row key piece) c.as_slice.ensures.value c.piece_for-piece.ensures in
    let there : piece < length pieces = omega (arith, belongs.there, c.if-piece-len.false, c.len.ensures, c.self.inside.pieces.ok.0) in
    let at = c.place_of-found.ensures.place ∙ ap (place_among key) (c.as_slice-2.ensures.value ∙ ap piece_items c.index.ensures) in
    c.index_in_all.ensures.is
    ∙ ap (λ row. after_elements (length (joined (take piece row))) c.place_of-found.result) c.as_slice-3.ensures.value
    ∙ found_in value_key_cmp_total key_of_value key 1024 pieces piece belongs c.self.invariant.1 (ap are_rising c.self.view_is ∙ c.requires) c.index.result.now (key, []) there (length (joined (take piece pieces))) refl c.place_of-found.result at
    ∙ ap (place_among key) c.self.view_is
