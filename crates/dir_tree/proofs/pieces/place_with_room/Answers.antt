use Rattle.std.proofs.lemmas.Grind.{common_steps}
use Rattle.std.proofs.Common.{◌<◌, ◌/◌, ap, sym, ◌∙◌, arith, length, vec_len}
use Rattle.std.proofs.lemmas.List.{get_or_default}
use Rattle.dir_tree.specs.Inside.Pieces.{IsInside, piece_items}
use Rattle.dir_tree.proofs.SplitPieces.{filled_split, joined_split, place_in_back, room_in_back, room_in_front}
use Rattle.dir_tree.proofs.pieces.place_with_room.Goals as goal

pub returns-then-within-half-clause-joined : goal.returns-then-within-half-clause-joined
returns-then-within-half-clause-joined g c = joined_split _ _ _ _ c.in_ok-split.ensures.ok c.requires.piece

pub returns-then-within-half-clause-filled : goal.returns-then-within-half-clause-filled
returns-then-within-half-clause-filled g c =
    let inside : IsInside c.args.pieces.now.items c.args.place.piece (c.len-half.result / 2) = λ d.
    let same = c.index-2.ensures ∙ get_or_default c.args.pieces.now.items c.args.place.piece c.index-2.result.now d c.requires.piece in
    let read = c.index.ensures ∙ get_or_default c.args.pieces.now.items c.args.place.piece c.index.result.now c.index-2.result.now c.requires.piece ∙ sym c.index-2.ensures in
    omega (arith, ap (λ p. length (piece_items p)) same, ap (λ p. vec_len p) read, c.len.ensures, c.len-half.ensures, c.if-len-lt-MOST.false, c.index-2.result.now.ok.0) in
    let read = c.index.ensures ∙ get_or_default c.args.pieces.now.items c.args.place.piece c.index.result.now c.index-2.result.now c.requires.piece ∙ sym c.index-2.ensures in
    let some : 0 < c.len-half.result / 2 = omega (arith, ap (λ p. vec_len p) read, c.len.ensures, c.len-half.ensures, c.if-len-lt-MOST.false) in
    filled_split _ _ _ _ c.in_ok-split.ensures.ok c.requires.piece 1024 some inside c.requires.filled

pub returns-else-within-half-clause-joined : goal.returns-else-within-half-clause-joined
returns-else-within-half-clause-joined g c = joined_split _ _ _ _ c.in_ok-split.ensures.ok c.requires.piece

pub returns-else-within-half-clause-filled : goal.returns-else-within-half-clause-filled
returns-else-within-half-clause-filled g c =
    let inside : IsInside c.args.pieces.now.items c.args.place.piece (c.len-half.result / 2) = λ d.
    let same = c.index-2.ensures ∙ get_or_default c.args.pieces.now.items c.args.place.piece c.index-2.result.now d c.requires.piece in
    let read = c.index.ensures ∙ get_or_default c.args.pieces.now.items c.args.place.piece c.index.result.now c.index-2.result.now c.requires.piece ∙ sym c.index-2.ensures in
    omega (arith, ap (λ p. length (piece_items p)) same, ap (λ p. vec_len p) read, c.len.ensures, c.len-half.ensures, c.if-len-lt-MOST.false, c.index-2.result.now.ok.0) in
    let read = c.index.ensures ∙ get_or_default c.args.pieces.now.items c.args.place.piece c.index.result.now c.index-2.result.now c.requires.piece ∙ sym c.index-2.ensures in
    let some : 0 < c.len-half.result / 2 = omega (arith, ap (λ p. vec_len p) read, c.len.ensures, c.len-half.ensures, c.if-len-lt-MOST.false) in
    filled_split _ _ _ _ c.in_ok-split.ensures.ok c.requires.piece 1024 some inside c.requires.filled

pub returns-else-within-half-clause-place : goal.returns-else-within-half-clause-place
returns-else-within-half-clause-place g c = λ at place.
    let inside : IsInside c.args.pieces.now.items c.args.place.piece (c.len-half.result / 2) = λ d.
    let same = c.index-2.ensures ∙ get_or_default c.args.pieces.now.items c.args.place.piece c.index-2.result.now d c.requires.piece in
    let read = c.index.ensures ∙ get_or_default c.args.pieces.now.items c.args.place.piece c.index.result.now c.index-2.result.now c.requires.piece ∙ sym c.index-2.ensures in
    omega (arith, ap (λ p. length (piece_items p)) same, ap (λ p. vec_len p) read, c.len.ensures, c.len-half.ensures, c.if-len-lt-MOST.false, c.index-2.result.now.ok.0) in
    place_in_back _ _ _ _ c.in_ok-split.ensures.ok c.requires.piece c.args.place.within at (omega arith) inside place

pub returns-then-within-half-clause-room : goal.returns-then-within-half-clause-room
returns-then-within-half-clause-room g c =
    let inside : IsInside c.args.pieces.now.items c.args.place.piece (c.len-half.result / 2) = λ d.
    let same = c.index-2.ensures ∙ get_or_default c.args.pieces.now.items c.args.place.piece c.index-2.result.now d c.requires.piece in
    let read = c.index.ensures ∙ get_or_default c.args.pieces.now.items c.args.place.piece c.index.result.now c.index-2.result.now c.requires.piece ∙ sym c.index-2.ensures in
    omega (arith, ap (λ p. length (piece_items p)) same, ap (λ p. vec_len p) read, c.len.ensures, c.len-half.ensures, c.if-len-lt-MOST.false, c.index-2.result.now.ok.0) in
    let read = c.index.ensures ∙ get_or_default c.args.pieces.now.items c.args.place.piece c.index.result.now c.index-2.result.now c.requires.piece ∙ sym c.index-2.ensures in
    let some : 0 < c.len-half.result / 2 = omega (arith, ap (λ p. vec_len p) read, c.len.ensures, c.len-half.ensures, c.if-len-lt-MOST.false) in
    let whole = (c.requires.filled c.args.place.piece c.index-2.result.now c.requires.piece).1 in
    let half : c.len-half.result / 2 < 1024 = omega (arith, whole, ap (λ p. length (piece_items p)) c.index-2.ensures, c.len-half.ensures, c.index-2.result.now.ok.0) in
    room_in_front _ _ _ _ c.in_ok-split.ensures.ok c.requires.piece 1024 half inside

pub returns-else-within-half-clause-room : goal.returns-else-within-half-clause-room
returns-else-within-half-clause-room g c =
    let inside : IsInside c.args.pieces.now.items c.args.place.piece (c.len-half.result / 2) = λ d.
    let same = c.index-2.ensures ∙ get_or_default c.args.pieces.now.items c.args.place.piece c.index-2.result.now d c.requires.piece in
    let read = c.index.ensures ∙ get_or_default c.args.pieces.now.items c.args.place.piece c.index.result.now c.index-2.result.now c.requires.piece ∙ sym c.index-2.ensures in
    omega (arith, ap (λ p. length (piece_items p)) same, ap (λ p. vec_len p) read, c.len.ensures, c.len-half.ensures, c.if-len-lt-MOST.false, c.index-2.result.now.ok.0) in
    let read = c.index.ensures ∙ get_or_default c.args.pieces.now.items c.args.place.piece c.index.result.now c.index-2.result.now c.requires.piece ∙ sym c.index-2.ensures in
    let some : 0 < c.len-half.result / 2 = omega (arith, ap (λ p. vec_len p) read, c.len.ensures, c.len-half.ensures, c.if-len-lt-MOST.false) in
    room_in_back _ _ _ _ c.in_ok-split.ensures.ok c.requires.piece 1024 some c.requires.filled inside

pub returns-then-len-lt-MOST-clause-room : goal.returns-then-len-lt-MOST-clause-room
returns-then-len-lt-MOST-clause-room g c = grind (arith, common_steps)

pub split-requires-clause-at : goal.split-requires-clause-at
split-requires-clause-at g c = grind (arith, common_steps)

pub returns-then-within-half-clause-place : goal.returns-then-within-half-clause-place
returns-then-within-half-clause-place g c = grind (arith, common_steps)
