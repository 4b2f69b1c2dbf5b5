use Rattle.std.proofs.Common.{◌≡◌, ◌∷◌, ◌++◌, take}
use Rattle.std.specs.List.{flat_map}
use Rattle.dir_names.proofs.attribute.options.OptionSet.of.Given as goal

abbrev pub invariant-loop-option : goal.invariant-loop-option
invariant-loop-option l = l.joined.items ≡ l.initial.joined.items ++ flat_map (λ text. 0 ∷ text) (take l.option-index l.rest)
