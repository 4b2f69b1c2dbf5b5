use Rattle.std.proofs.Common.{◌≡◌, ◌∷◌, ◌++◌, take}
use Rattle.std.specs.List.{flat_map}
use Rattle.dir_names.specs.Names.Printing.{printed_rdn}
use Rattle.dir_names.proofs.name.printing.print_name.Given as goal

abbrev pub invariant-loop-rdn : goal.invariant-loop-rdn
invariant-loop-rdn l = l.out.items ≡ l.initial.out.items ++ flat_map (λ rdn. 44 ∷ printed_rdn rdn) (take l.rdn-index l.rest)
