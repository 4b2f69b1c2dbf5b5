use Rattle.std.proofs.Common.{◌≡◌, not, ◌++◌}
use Rattle.std.specs.List.{filter}
use Rattle.dir_change.specs.Difference.{bytes_of, has_exactly, values_missing_in}
use Rattle.dir_change.proofs.difference.missing_values.Given as goal

abbrev pub invariant-loop-key : goal.invariant-loop-key
invariant-loop-key l =
    l.values.items ++ bytes_of (filter (λ p. not (has_exactly l.other.stored.values p)) l.key-iterator)
    ≡ bytes_of (values_missing_in l.attribute.stored.values l.other.stored.values)
