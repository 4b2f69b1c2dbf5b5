use Rattle.std.proofs.Common.{◌≡◌, ◌+◌, [], length}
use Rattle.std.specs.Option.{option_copied, option_map_or}
use Rattle.dir_names.specs.Inside.Left.{parts_left}
use Rattle.dir_acl.specs.Config.Whats.{items_after}
use Rattle.dir_acl.proofs.config.whats.read_items.Given as goal

abbrev pub invariant-loop-rest : goal.invariant-loop-rest
invariant-loop-rest l = items_after l.schema [] (parts_left 44 (option_copied l.initial.rest)) ≡ items_after l.schema l.items.items (parts_left 44 (option_copied l.rest))

abbrev pub decreases-loop-rest : goal.decreases-loop-rest
decreases-loop-rest l = option_map_or (λ text. length text + 1) (option_copied l.rest) 0
