use Rattle.std.proofs.Common.{◌++◌, drop, sym, ap, ◌∙◌}
use Rattle.dir_ldif.proofs.WriteWholeLemmas.{front_of, front_kept, front_grown}
use Rattle.dir_ldif.proofs.device.whole.write_whole.Goals as goal

pub returns-then-n-eq0-clause-prefix : goal.returns-then-n-eq0-clause-prefix
returns-then-n-eq0-clause-prefix g c =
    let before = c.loop-rest.invariant.1 in
    let grown = front_grown _ _ _ c.args.text.now before.0 c.loop-rest.rest.now c.in-Ok.n before.1 before.2 c.in-Ok.ensures.bytes in
    front_of _ _ c.args.text.now grown.0 (drop c.in-Ok.n c.loop-rest.rest.now) grown.1 grown.2

pub loop-rest-preserved : goal.loop-rest-preserved
loop-rest-preserved g c =
    let before = c.loop-rest.invariant.1 in
    let grown = front_grown _ _ _ c.args.text.now before.0 c.loop-rest.rest.now c.in-Ok.n before.1 before.2 c.in-Ok.ensures.bytes in
    (c.in-Ok.ensures.count ∙ c.loop-rest.invariant.0, (grown.0, grown.1, grown.2 ∙ ap (λ t. grown.0 ++ t) (sym c.split_at.ensures.back)))

pub returns-in-Err-clause-prefix : goal.returns-in-Err-clause-prefix
returns-in-Err-clause-prefix g c =
    let before = c.loop-rest.invariant.1 in
    front_kept _ _ _ c.args.text.now before.0 c.loop-rest.rest.now before.1 before.2 c.in-Err.ensures.bytes
