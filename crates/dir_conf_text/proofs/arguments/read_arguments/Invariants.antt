use Rattle.std.proofs.Common.{◌≡◌, ◌≤◌, ◌++◌, length}
use Rattle.dir_conf_text.specs.Arguments.{arguments_from, arguments_of}
use Rattle.dir_conf_text.proofs.arguments.read_arguments.Given as goal

abbrev pub invariant-loop-rest : goal.invariant-loop-rest
invariant-loop-rest l = (arguments_of l.line ≡ l.arguments.items ++ arguments_from l.spot l.item.items l.rest) × (length l.rest ≤ length l.line)

abbrev pub decreases-loop-rest : goal.decreases-loop-rest
decreases-loop-rest l = length l.rest
