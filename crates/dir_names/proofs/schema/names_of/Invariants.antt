use Rattle.std.proofs.Common.{◌≡◌, ◌∷◌, map, take}
use Rattle.dir_names.proofs.schema.names_of.Given as goal

abbrev pub invariant-loop-other : goal.invariant-loop-other
invariant-loop-other l = l.names.items ≡ l.name ∷ map (λ other. other.now) (take l.other-index l.others)
