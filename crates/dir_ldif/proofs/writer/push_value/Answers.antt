use Rattle.std.proofs.Common.{arith}
use Rattle.std.proofs.lemmas.Grind.{common_steps}
use Rattle.dir_ldif.proofs.writer.push_value.Goals as goal

pub returns-in_err-text-clause-kept : goal.returns-in_err-text-clause-kept
returns-in_err-text-clause-kept c = grind (arith, common_steps)

pub returns-in_ok-room-clause-kept : goal.returns-in_ok-room-clause-kept
returns-in_ok-room-clause-kept c = grind (arith, common_steps)

pub returns-in_ok-room-2-clause-kept : goal.returns-in_ok-room-2-clause-kept
returns-in_ok-room-2-clause-kept c = grind (arith, common_steps)
