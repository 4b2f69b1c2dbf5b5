use Rattle.std.proofs.Common.{eqb, take, arith, w8}
use Rattle.std.proofs.lemmas.List.{length-take-le}
use Rattle.std.proofs.lemmas.Bool.Decides.{nat_tests}
use Rattle.std.proofs.lemmas.Simd.{bitmask_splat, trailing_mask_l}
use Rattle.dir_ldif.proofs.reader.bytes.bytes_before.Goals as goal

pub returns-else-found-eq0 : goal.returns-else-found-eq0
returns-else-found-eq0 c =
    let near = take 16 c.args.text.now in
    let long = length-take-le 16 c.args.text.now c.requires in
    let same = bitmask_splat w8 eqb near 16 c.args.byte long (omega arith) in
    let some = rw same at c.if-found-eq0.false in
    rw same (trailing_mask_l (λ b. eqb b c.args.byte) 64 near (omega (arith, long)) (grind (arith, nat_tests)))
