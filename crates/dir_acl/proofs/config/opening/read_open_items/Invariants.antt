use Rattle.std.proofs.Common.{◌≡◌, ◌+◌, [], length}
use Rattle.std.specs.Option.{option_copied, option_map_or}
use Rattle.dir_names.specs.Inside.Left.{parts_left}
use Rattle.dir_acl.specs.Config.Opening.{with_items}
use Rattle.dir_acl.specs.Inside.NotedTypes.{noted_by}
use Rattle.dir_acl.proofs.config.opening.read_open_items.Given as goal

abbrev pub invariant-loop-rest : goal.invariant-loop-rest
invariant-loop-rest l = with_items (noted_by l.types) [] (parts_left 44 (option_copied l.initial.rest)) ≡ with_items (noted_by l.types) l.items.items (parts_left 44 (option_copied l.rest))

abbrev pub decreases-loop-rest : goal.decreases-loop-rest
decreases-loop-rest l = option_map_or (λ text. length text + 1) (option_copied l.rest) 0
