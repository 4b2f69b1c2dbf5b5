use Rattle.std.proofs.Common.{arith}
use Rattle.std.proofs.lemmas.Grind.{common_steps}
use Rattle.dir_acl.proofs.note.filters.with_compared.Goals as goal

pub returns-in_ok-notes-in-Ok : goal.returns-in_ok-notes-in-Ok
returns-in_ok-notes-in-Ok c = grind (arith, common_steps)
