use Rattle.std.proofs.Common.{arith}
use Rattle.std.proofs.lemmas.Grind.{common_steps}
use Rattle.dir_ldif.proofs.writer.push_mod.Goals as goal

pub returns-in_err-push_texts-clause-kept : goal.returns-in_err-push_texts-clause-kept
returns-in_err-push_texts-clause-kept c = grind (arith, common_steps)

pub returns-in_err-extend_from_slice-clause-kept :
    goal.returns-in_err-extend_from_slice-clause-kept
returns-in_err-extend_from_slice-clause-kept c = grind (arith, common_steps)

pub returns-clause-text : goal.returns-clause-text
returns-clause-text c = grind (arith, common_steps)

pub returns-clause-kept : goal.returns-clause-kept
returns-clause-kept c = grind (arith, common_steps)
