use Rattle.std.proofs.Common.{◌≡◌, ◌&&◌, ◌++◌, false, true, sym, ap, ◌∙◌, arith, refl}
use Rattle.std.proofs.lemmas.List.{take-append-drop}
use Rattle.base64.specs.GeneralPurpose.{IsBytes}
use Rattle.dir_ldif.specs.AttrVal.{is_base64}
use Rattle.dir_ldif.proofs.Base64Lemmas.{drop_bytes, told}
use Rattle.dir_ldif.proofs.reader.attrval.is_base64.Goals as goal

pub loop-rest-init : goal.loop-rest-init
loop-rest-init c = (refl, λ i. let fits = c.type_inv.text i in omega arith)

pub returns-then-not-is_whole_piece : goal.returns-then-not-is_whole_piece
returns-then-not-is_whole_piece c =
    let rest = c.loop-rest.rest.now in
    let piece = c.split_at.result.0.now in
    let after = c.split_at.result.1.now in
    let whole : piece ++ after ≡ rest = rw (c.split_at.ensures.front, c.split_at.ensures.back) (take-append-drop 1024 rest) in
    let bytes : IsBytes after = rw c.split_at.ensures.back (drop_bytes 1024 rest c.loop-rest.invariant.1) in
    let step = c.is_whole_piece.ensures after bytes (omega arith) in
    let not : c.is_whole_piece.result ≡ false = cc in
    sym (c.loop-rest.invariant.0 ∙ ap is_base64 (sym whole) ∙ step ∙ ap (λ b. b && is_base64 after) not)

pub loop-rest-preserved : goal.loop-rest-preserved
loop-rest-preserved c =
    let rest = c.loop-rest.rest.now in
    let piece = c.split_at.result.0.now in
    let after = c.split_at.result.1.now in
    let whole : piece ++ after ≡ rest = rw (c.split_at.ensures.front, c.split_at.ensures.back) (take-append-drop 1024 rest) in
    let bytes : IsBytes after = rw c.split_at.ensures.back (drop_bytes 1024 rest c.loop-rest.invariant.1) in
    let step = c.is_whole_piece.ensures after bytes (omega arith) in
    let so : c.is_whole_piece.result ≡ true = cc in
    (c.loop-rest.invariant.0 ∙ ap is_base64 (sym whole) ∙ step ∙ ap (λ b. b && is_base64 after) so, bytes)

pub returns : goal.returns
returns c =
    c.is_ok.ensures.value
    ∙ told c.loop-rest.rest.now _ c.decode_slice_unchecked.new.output c.decode_slice_unchecked.result c.decode_slice_unchecked.ensures.ok c.decode_slice_unchecked.ensures.err
    ∙ sym c.loop-rest.invariant.0
