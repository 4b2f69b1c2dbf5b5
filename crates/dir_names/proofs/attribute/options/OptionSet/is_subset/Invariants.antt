use Rattle.std.proofs.Common.{◌≡◌, ◌+◌, length}
use Rattle.std.specs.List.{list_all, list_any}
use Rattle.std.specs.Option.{option_copied, option_map_or}
use Rattle.dir_names.specs.Inside.Left.{options_joined}
use Rattle.dir_names.specs.Orders.{bytes_eq}
use Rattle.dir_names.proofs.attribute.options.OptionSet.is_subset.Given as goal

abbrev pub invariant-loop-rest : goal.invariant-loop-rest
invariant-loop-rest l =
    list_all (λ option. list_any (λ one. bytes_eq one option) l.other) (options_joined (option_copied l.initial.rest))
    ≡ list_all (λ option. list_any (λ one. bytes_eq one option) l.other) (options_joined (option_copied l.rest))

abbrev pub decreases-loop-rest : goal.decreases-loop-rest
decreases-loop-rest l = option_map_or (λ text. length text + 1) (option_copied l.rest) 0
