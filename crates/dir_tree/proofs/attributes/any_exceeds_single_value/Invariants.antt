use Rattle.std.proofs.Common.{◌≡◌, nat_lt, ◌&&◌}
use Rattle.std.specs.List.{list_any}
use Rattle.std.specs.FinMap as fin
use Rattle.dir_names.specs.Table.{single_of}
use Rattle.dir_tree.proofs.attributes.any_exceeds_single_value.Given as goal

abbrev pub invariant-loop-attribute : goal.invariant-loop-attribute
invariant-loop-attribute l =
    list_any (λ a. nat_lt 1 (fin.len a.stored.values) && single_of l.schema a.key) l.attribute-iterator
    ≡ list_any (λ a. nat_lt 1 (fin.len a.stored.values) && single_of l.schema a.key) l.attributes
