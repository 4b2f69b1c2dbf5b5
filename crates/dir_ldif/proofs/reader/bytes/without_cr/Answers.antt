use Rattle.std.proofs.Common.{arith}
use Rattle.std.proofs.lemmas.Bool.Decides.{nat_tests}
use Rattle.dir_ldif.proofs.BytesLemmas.{without_last-same, without_last-other}
use Rattle.dir_ldif.proofs.reader.bytes.without_cr.Goals as goal

pub returns-then-last-eq13 : goal.returns-then-last-eq13
returns-then-last-eq13 c = grind (arith, nat_tests, without_last-same)

pub returns-else-last-eq13 : goal.returns-else-last-eq13
returns-else-last-eq13 c = grind (arith, nat_tests, without_last-other)
