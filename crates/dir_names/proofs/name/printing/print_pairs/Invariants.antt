use Rattle.std.proofs.Common.{◌≡◌, ◌∷◌, ◌++◌, take}
use Rattle.std.specs.List.{flat_map}
use Rattle.dir_names.specs.Names.Printing.{printed_pair}
use Rattle.dir_names.proofs.name.printing.print_pairs.Given as goal

abbrev pub invariant-loop-pair : goal.invariant-loop-pair
invariant-loop-pair l = l.out.items ≡ l.initial.out.items ++ flat_map (λ p. 43 ∷ printed_pair p) (take l.pair-index l.rest)
