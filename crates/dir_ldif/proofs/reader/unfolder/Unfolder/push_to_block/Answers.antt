use Rattle.std.proofs.Common.{arith}
use Rattle.std.proofs.lemmas.Grind.{common_steps}
use Rattle.dir_ldif.proofs.reader.unfolder.Unfolder.push_to_block.Goals as goal

pub invariant_of-self : goal.invariant_of-self
invariant_of-self c = grind (arith, common_steps)

pub returns-then-is_comment-clause-ok : goal.returns-then-is_comment-clause-ok
returns-then-is_comment-clause-ok c = grind (arith, common_steps)

pub returns-then-is_comment-clause-err : goal.returns-then-is_comment-clause-err
returns-then-is_comment-clause-err c = grind (arith, common_steps)
