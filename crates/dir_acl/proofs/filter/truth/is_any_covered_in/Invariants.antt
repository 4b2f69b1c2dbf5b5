use Rattle.std.proofs.Common.{◌≡◌}
use Rattle.std.specs.Prelude.{◌&&◌}
use Rattle.std.specs.List.{list_any}
use Rattle.std.specs.FinMap as fin
use Rattle.dir_names.specs.Covers.{covers}
use Rattle.dir_acl.specs.Truth.{has_matching}
use Rattle.dir_acl.proofs.filter.truth.is_any_covered_in.Given as goal

abbrev pub invariant-loop-key : goal.invariant-loop-key
invariant-loop-key l =
    list_any (λ a. covers l.attr a.0 && has_matching l.matching a.1) (fin.entries l.entry.attributes)
    ≡ list_any (λ a. covers l.attr a.0 && has_matching l.matching a.1) l.key-iterator
