use Rattle.std.proofs.Common.{arith}
use Rattle.dir_ldif.proofs.HandLemmas.{hand_found, hand_used}
use Rattle.dir_ldif.proofs.reader.Core.use_buffer.Goals as goal

pub returns-in-Ok-Some-clause-ok : goal.returns-in-Ok-Some-clause-ok
returns-in-Ok-Some-clause-ok c =
    let r = c.args.self.now in
    let u = rw c.in-Ok-Some.field-0-is at c.in-Ok-Some.ensures.used in
    hand_found r.unfolder c.push_chunk.new.self c.in-Ok-Some.block.items r.buffer.items c.deref.result.now c.in-Ok-Some.rest.now r.at r.end c.deref.ensures.value r.in_range (omega (arith, r.buffer.ok.0, r.in_buffer))
    (u.0, u.1) (rw c.in-Ok-Some.field-0-is at c.in-Ok-Some.ensures.ok)

pub returns-in-Ok-Some-clause-used : goal.returns-in-Ok-Some-clause-used
returns-in-Ok-Some-clause-used c =
    let r = c.args.self.now in
    hand_used r.unfolder c.push_chunk.new.self c.in-Ok-Some.block.items r.buffer.items c.deref.result.now c.in-Ok-Some.rest.now r.at r.end c.deref.ensures.value r.in_range (omega (arith, r.buffer.ok.0, r.in_buffer))
    (rw c.in-Ok-Some.field-0-is at c.in-Ok-Some.ensures.used)
