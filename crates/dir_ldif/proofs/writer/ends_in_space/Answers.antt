use Rattle.std.proofs.Common.{arith}
use Rattle.dir_ldif.proofs.BytesLemmas.{ends_in-append}
use Rattle.dir_ldif.proofs.writer.ends_in_space.Goals as goal

pub returns-in-Some : goal.returns-in-Some
returns-in-Some c = grind (arith, ends_in-append)
