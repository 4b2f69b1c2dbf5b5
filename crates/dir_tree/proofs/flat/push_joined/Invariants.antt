use Rattle.std.proofs.Common.{◌≡◌, ◌++◌, map, reverse}
use Rattle.std.specs.List.{flat_map}
use Rattle.std.specs.Slice.Iter.{iter_rest}
use Rattle.dir_tree.proofs.flat.push_joined.Given as goal

abbrev pub invariant-loop-own : goal.invariant-loop-own
invariant-loop-own l = l.rdns.items ++ flat_map (λ own. own) (reverse (map (λ own. own.now) (iter_rest l.own-iterator.iter))) ≡ l.fn.rdns.items ++ flat_map (λ own. own) (reverse (map (λ own. own.now) l.path))
