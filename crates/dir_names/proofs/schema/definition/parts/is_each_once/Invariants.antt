use Rattle.std.proofs.Common.{◌≡◌, length}
use Rattle.dir_names.specs.Definitions.Parts.{is_each_once}
use Rattle.dir_names.proofs.schema.definition.parts.is_each_once.Given as goal

abbrev pub invariant-loop-rest : goal.invariant-loop-rest
invariant-loop-rest l = is_each_once l.rest ≡ is_each_once l.parts

abbrev pub decreases-loop-rest : goal.decreases-loop-rest
decreases-loop-rest l = length l.rest
