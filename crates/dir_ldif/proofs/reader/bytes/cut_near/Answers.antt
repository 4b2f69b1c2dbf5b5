use Rattle.std.proofs.Common.{◌≡◌, ◌+◌, true, eqb, get_or, arith, subst, sym}
use Rattle.std.proofs.lemmas.List.{take_rest}
use Rattle.std.proofs.lemmas.Simd.{run_in_chunk_fails, run_in_chunk_stops}
use Rattle.dir_ldif.proofs.BytesLemmas.{cut_at-first}
use Rattle.dir_ldif.proofs.reader.bytes.cut_near.Goals as goal

pub returns-then-at-lt-NEAR : goal.returns-then-at-lt-NEAR
returns-then-at-lt-NEAR c =
    let text = c.args.text.now in
    let byte = c.args.byte in
    let at = c.bytes_before-at.result in
    let stops = run_in_chunk_stops (λ b. eqb b byte) text 0 16 at 0 c.if-text-ge-NEAR.true c.bytes_before-at.ensures c.if-at-lt-NEAR.true in
    let from : 0 + at ≡ at = omega arith in
    let here = subst (λ k. eqb (get_or text k 0) byte ≡ true) from stops in
    let fails = run_in_chunk_fails (λ b. eqb b byte) text 0 16 at 0 c.if-text-ge-NEAR.true c.bytes_before-at.ensures in
    rw (take_rest text (at + 1)) (sym (cut_at-first byte text at (omega arith) here (λ j h. fails j (omega arith) (omega (arith, h)))))
