use Rattle.std.proofs.Common.{◌≡◌, length}
use Rattle.dir_acl.specs.Config.OpenForms.{are_plain_tests}
use Rattle.dir_acl.proofs.config.open_forms.are_plain_tests.Given as goal

abbrev pub invariant-loop-b : goal.invariant-loop-b
invariant-loop-b l = are_plain_tests l.text ≡ are_plain_tests l.rest

abbrev pub decreases-loop-b : goal.decreases-loop-b
decreases-loop-b l = length l.rest
