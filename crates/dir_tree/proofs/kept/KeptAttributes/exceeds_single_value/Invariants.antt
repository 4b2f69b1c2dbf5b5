use Rattle.std.proofs.Common.{◌≡◌, nat_lt, ◌&&◌}
use Rattle.std.specs.List.{list_any}
use Rattle.std.specs.FinMap as fin
use Rattle.dir_names.specs.Table.{single_of}
use Rattle.dir_tree.specs.NewEntry.{exceeds_single_value}
use Rattle.dir_tree.proofs.kept.KeptAttributes.exceeds_single_value.Given as goal

abbrev pub invariant-loop-key : goal.invariant-loop-key
invariant-loop-key l = exceeds_single_value l.schema l.self ≡ list_any (λ a. nat_lt 1 (fin.len a.1.values) && single_of l.schema a.0) l.key-iterator
