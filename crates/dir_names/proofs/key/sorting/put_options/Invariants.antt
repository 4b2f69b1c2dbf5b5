use Rattle.std.proofs.Common.{◌≡◌, ◌∷◌, ◌++◌, ◌+◌, length}
use Rattle.std.specs.List.{flat_map}
use Rattle.std.specs.Option.{option_copied, option_map_or}
use Rattle.dir_names.specs.Inside.Left.{options_joined}
use Rattle.dir_names.specs.Inside.SortTexts.{text_sort}
use Rattle.dir_names.proofs.key.sorting.put_options.Given as goal

abbrev pub invariant-loop-rest : goal.invariant-loop-rest
invariant-loop-rest l =
    l.out.items ++ flat_map (λ o. 1 ∷ text_sort o) (options_joined (option_copied l.rest))
    ≡ l.initial.out.items ++ flat_map (λ o. 1 ∷ text_sort o) (options_joined (option_copied l.initial.rest))

abbrev pub decreases-loop-rest : goal.decreases-loop-rest
decreases-loop-rest l = option_map_or (λ text. length text + 1) (option_copied l.rest) 0
