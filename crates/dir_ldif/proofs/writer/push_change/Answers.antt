use Rattle.std.proofs.Common.{arith}
use Rattle.std.proofs.lemmas.Grind.{common_steps}
use Rattle.std.proofs.lemmas.Result.{on_ok_weaker}
use Rattle.dir_ldif.specs.declared.records.Record.TheVariants as form
use Rattle.dir_ldif.proofs.RoundTrip.{record-read}
use Rattle.dir_ldif.proofs.writer.push_change.Goals as goal

pub returns-clause-back : goal.returns-clause-back
returns-clause-back c = on_ok_weaker c.push_end.result (λ _. record-read (form.Change c.args.change.now) (c.in_ok-push_name.ensures.sound, c.in_ok-push_kind.ensures.sound)) c.push_end.ensures.text

pub returns-in_err-push_line-clause-kept : goal.returns-in_err-push_line-clause-kept
returns-in_err-push_line-clause-kept c = grind (arith, common_steps)

pub returns-in_err-push_kind-clause-kept : goal.returns-in_err-push_kind-clause-kept
returns-in_err-push_kind-clause-kept c = grind (arith, common_steps)

pub returns-clause-text : goal.returns-clause-text
returns-clause-text c = grind (arith, common_steps)

pub returns-clause-kept : goal.returns-clause-kept
returns-clause-kept c = grind (arith, common_steps)
