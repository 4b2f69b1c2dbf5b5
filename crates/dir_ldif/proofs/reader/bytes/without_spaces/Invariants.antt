use Rattle.std.proofs.Common.{◌≡◌, length}
use Rattle.dir_ldif.specs.Bytes.{without_leading}
use Rattle.dir_ldif.proofs.reader.bytes.without_spaces.Given as goal

abbrev pub invariant-loop-rest : goal.invariant-loop-rest
invariant-loop-rest l = without_leading 32 l.rest ≡ without_leading 32 l.text

abbrev pub decreases-loop-rest : goal.decreases-loop-rest
decreases-loop-rest l = length l.rest
