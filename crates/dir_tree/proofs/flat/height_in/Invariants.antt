use Rattle.std.proofs.Common.{◌≡◌, max, map}
use Rattle.dir_tree.specs.Moves.{greatest, length_or_zero, rest_below}
use Rattle.dir_tree.proofs.flat.height_in.Given as goal

abbrev pub invariant-loop-below : goal.invariant-loop-below
invariant-loop-below l = max l.height (greatest (map (λ p. length_or_zero (rest_below l.key p.0)) l.below-iterator)) ≡ greatest (map (λ p. length_or_zero (rest_below l.key p.0)) l.entries.entries)
