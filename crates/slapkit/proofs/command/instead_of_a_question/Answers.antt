use Rattle.std.proofs.Common.{◌∙◌, ap}
use Rattle.std.proofs.lemmas.Result.{IfOk-weaker}
use Rattle.slapkit.specs.CommandLine.{bound}
use Rattle.slapkit.proofs.CommandLineLemmas.{conflict_bound, excludes_four}
use Rattle.slapkit.proofs.command.instead_of_a_question.Goals as goal

pub returns-clause-excludes : goal.returns-clause-excludes
returns-clause-excludes c =
    IfOk-weaker c.conflicts_with-4.result _ _ (λ r adds.
    excludes_four c.args.arg c.in_ok-conflicts_with.field-0 c.in_ok-conflicts_with-2.field-0 c.in_ok-conflicts_with-3.field-0 r _ _ _ _ c.in_ok-conflicts_with.ensures c.in_ok-conflicts_with-2.ensures c.in_ok-conflicts_with-3.ensures adds) c.conflicts_with-4.ensures

pub returns-clause-rule : goal.returns-clause-rule
returns-clause-rule c =
    IfOk-weaker c.conflicts_with-4.result _ _ (λ r adds.
    conflict_bound c.in_ok-conflicts_with-3.field-0 r _ adds ∙ ap bound (conflict_bound c.in_ok-conflicts_with-2.field-0 c.in_ok-conflicts_with-3.field-0 _ c.in_ok-conflicts_with-3.ensures ∙ ap bound (conflict_bound c.in_ok-conflicts_with.field-0 c.in_ok-conflicts_with-2.field-0 _ c.in_ok-conflicts_with-2.ensures
    ∙ ap bound (conflict_bound c.args.arg c.in_ok-conflicts_with.field-0 _ c.in_ok-conflicts_with.ensures)))) c.conflicts_with-4.ensures
