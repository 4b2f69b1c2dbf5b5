use Rattle.std.proofs.Common.{◌<◌, [], Err, length, take, refl, sym, ap, ◌∙◌, arith}
use Rattle.std.specs.FinMap as fin
use Rattle.dir_names.specs.Attr.{Attr}
use Rattle.dir_names.specs.Orders.{attr_cmp, attr_cmp_total}
use Rattle.dir_tree.specs.Content.{Keyed}
use Rattle.dir_tree.specs.Inside.Pieces.{joined, piece_items}
use Rattle.dir_tree.specs.Inside.Stored.{attribute_pair, attributes_rise}
use Rattle.dir_tree.proofs.FoundInPieces.{found_in, found_past, place_among, rising_in}
use Rattle.dir_tree.proofs.attributes.list.place_in.Goals as goal

abbrev key_of_attribute : Keyed → Attr
key_of_attribute attribute = (attribute_pair attribute).0

-- some attribute, for what is asked of an index that is none
abbrev some_attribute : Attr → Keyed
some_attribute key = record { key = key; stored = record { spelling = []; values = fin.empty } }

pub returns-then-piece-pieces-clause-place : goal.returns-then-piece-pieces-clause-place
returns-then-piece-pieces-clause-place c =
    let key = c.args.key.now in
    ap (λ n. Err n) c.requires.len
    ∙ sym (found_past attr_cmp_total key_of_attribute key 1024 c.args.pieces.now c.piece_for-piece.result c.piece_for-piece.ensures c.requires.filled c.requires.rises (some_attribute key) (omega (arith, c.if-piece-pieces.true)))

pub place_of-found-requires : goal.place_of-found-requires
place_of-found-requires c =
    let pieces = c.args.pieces.now in
    let piece = c.piece_for-piece.result in
    let belongs = c.piece_for-piece.ensures in
    let there : piece < length pieces = omega (arith, belongs.there, c.if-piece-pieces.false) in
    ap attributes_rise (c.as_slice.ensures.value ∙ ap piece_items c.index-pieces-piece.is) ∙ rising_in attr_cmp_total key_of_attribute c.args.key.now 1024 pieces piece belongs c.requires.filled c.requires.rises c.index-pieces-piece.result there

pub returns-clause-place : goal.returns-clause-place
returns-clause-place c =
    let pieces = c.args.pieces.now in
    let key = c.args.key.now in
    let piece = c.piece_for-piece.result in
    let belongs = c.piece_for-piece.ensures in
    let there : piece < length pieces = omega (arith, belongs.there, c.if-piece-pieces.false) in
    let at = c.place_of-found.ensures.place ∙ ap (place_among attr_cmp key_of_attribute key) (c.as_slice.ensures.value ∙ ap piece_items c.index-pieces-piece.is) in
    c.index_in_all.ensures.is
    ∙ found_in attr_cmp_total key_of_attribute key 1024 pieces piece belongs c.requires.filled c.requires.rises c.index-pieces-piece.result (some_attribute key) there (length (joined (take piece pieces))) refl c.place_of-found.result at
