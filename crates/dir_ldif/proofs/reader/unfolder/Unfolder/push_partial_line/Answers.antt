use Rattle.std.proofs.Common.{sym, subst, arith}
use Rattle.std.proofs.lemmas.Grind.{common_steps}
use Rattle.std.proofs.lemmas.Result.{IfErr-weaker}
use Rattle.dir_ldif.specs.Remainder.{FailsAtOnce}
use Rattle.dir_ldif.proofs.PartialLines.{rest_none, rest_some}
use Rattle.dir_ldif.proofs.reader.unfolder.Unfolder.push_partial_line.Goals as goal

pub returns-in-Some-clause-err : goal.returns-in-Some-clause-err
returns-in-Some-clause-err c =
    let same = rest_some c.args.self.now c.in-Some.last c.replace-partial.result.items c.args.chunk.now (cc) (cc) in
    IfErr-weaker c.push_partial_after.result _ _ (λ fault h text. subst (FailsAtOnce fault) (sym (same text)) (h text)) c.push_partial_after.ensures.err

pub returns-in-None-clause-err : goal.returns-in-None-clause-err
returns-in-None-clause-err c =
    let same = rest_none c.args.self.now c.replace-partial.result.items c.args.chunk.now (cc) (cc) in
    IfErr-weaker c.push_partial_alone.result _ _ (λ fault h text. subst (FailsAtOnce fault) (sym (same text)) (h text)) c.push_partial_alone.ensures.err

pub returns-then-is_empty-clause-ok : goal.returns-then-is_empty-clause-ok
returns-then-is_empty-clause-ok c = grind (arith, common_steps)

pub push_partial_after-requires-clause-line : goal.push_partial_after-requires-clause-line
push_partial_after-requires-clause-line c = grind (arith, common_steps)

pub push_partial_after-requires-clause-some : goal.push_partial_after-requires-clause-some
push_partial_after-requires-clause-some c = grind (arith, common_steps)

pub push_partial_alone-requires-clause-line : goal.push_partial_alone-requires-clause-line
push_partial_alone-requires-clause-line c = grind (arith, common_steps)

pub returns-in-Some-clause-ok : goal.returns-in-Some-clause-ok
returns-in-Some-clause-ok c = grind (arith, common_steps)

pub returns-in-None-clause-ok : goal.returns-in-None-clause-ok
returns-in-None-clause-ok c = grind (arith, common_steps)
