use Rattle.std.proofs.Common.{◌≡◌, ◌+◌, length}
use Rattle.std.specs.Option.{option_copied, option_map_or}
use Rattle.dir_names.specs.Inside.Left.{parts_left}
use Rattle.dir_names.specs.Results.{option_collect}
use Rattle.dir_names.proofs.AllLemmas.{prefixed}
use Rattle.dir_acl.specs.Tests.{unescaped}
use Rattle.dir_acl.proofs.filter.assertion.read_parts.Given as goal

abbrev pub invariant-loop-rest : goal.invariant-loop-rest
invariant-loop-rest l = option_collect unescaped (parts_left 42 (option_copied l.initial.rest)) ≡ prefixed l.parts.items (option_collect unescaped (parts_left 42 (option_copied l.rest)))

abbrev pub decreases-loop-rest : goal.decreases-loop-rest
decreases-loop-rest l = option_map_or (λ text. length text + 1) (option_copied l.rest) 0
