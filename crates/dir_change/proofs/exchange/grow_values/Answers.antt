use Rattle.std.proofs.Common.{sym, subst, rules}
use Rattle.std.proofs.lemmas.Result.{err_from_is_err_and}
use Rattle.dir_change.specs.Inside.Exchanged.{AreGrowing}
use Rattle.dir_change.proofs.ExchangedInTurn.{HasMore, growing_is, more_added}
use Rattle.dir_change.proofs.exchange.grow_values.Goals as goal

pub loop-key-preserved : goal.loop-key-preserved
loop-key-preserved c = (search rules, subst (HasMore c.args.values.now) (sym c.in_ok-add_if_missing.ensures.ok) (more_added c.args.values.now c.loop-key.values c.in-Some.key.now c.as_slice.result.now c.loop-key.invariant.1))

pub returns-in_err-add_if_missing-clause-err : goal.returns-in_err-add_if_missing-clause-err
returns-in_err-add_if_missing-clause-err c =
    let x = c.args.values.now in
    let after = c.args.after.now.stored.values in
    let growing = growing_is x after c.loop-key.values c.loop-key.key-iterator c.loop-key.invariant.0 c.loop-key.invariant.1 in
    let e = err_from_is_err_and c.from_residual.result c.from_residual.ensures.1 in
    rw e.1 (subst (AreGrowing x after) (sym c.in_err-add_if_missing.ensures.err) growing)
