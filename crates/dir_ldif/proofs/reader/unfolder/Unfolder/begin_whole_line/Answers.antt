use Rattle.std.proofs.Common.{arith}
use Rattle.std.proofs.lemmas.Grind.{common_steps}
use Rattle.std.proofs.lemmas.Result.{err_from_is_err_and}
use Rattle.dir_ldif.proofs.LogicalLineLemmas.{FailsAtOnce-apart}
use Rattle.dir_ldif.proofs.reader.unfolder.Unfolder.begin_whole_line.Goals as goal

pub returns-in_err-push_to_block-clause-takes : goal.returns-in_err-push_to_block-clause-takes
returns-in_err-push_to_block-clause-takes c =
    let e = err_from_is_err_and c.from_residual-in_err-push_to_block.result c.from_residual-in_err-push_to_block.ensures.1 in
    let j = c.args.self.now in
    rw (e.1, e.2) (
    λ more. FailsAtOnce-apart c.in_err-push_to_block.field-0.0 j.marks j.begun j.block.items j.last c.in-Some.last c.args.number c.args.text.now more (cc) c.requires.begins c.in_err-push_to_block.ensures.err
    )

pub returns-in_ok-push_to_block-clause-takes : goal.returns-in_ok-push_to_block-clause-takes
returns-in_ok-push_to_block-clause-takes c = grind (arith, common_steps)
