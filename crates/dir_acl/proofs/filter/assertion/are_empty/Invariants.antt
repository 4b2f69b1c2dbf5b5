use Rattle.std.proofs.Common.{◌≡◌, drop, length}
use Rattle.std.specs.Prelude.{◌==◌}
use Rattle.std.specs.List.{list_all}
use Rattle.dir_acl.proofs.filter.assertion.are_empty.Given as goal

abbrev pub invariant-loop-part : goal.invariant-loop-part
invariant-loop-part l = list_all (λ part. length part == 0) l.parts ≡ list_all (λ part. length part == 0) (drop l.part-index l.parts)
