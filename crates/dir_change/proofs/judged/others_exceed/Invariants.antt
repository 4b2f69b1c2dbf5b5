use Rattle.std.proofs.Common.{◌≡◌, ◌&&◌, nat_lt, not}
use Rattle.std.specs.List.{list_any}
use Rattle.std.specs.FinMap as fin
use Rattle.dir_names.specs.Table.{single_of}
use Rattle.dir_change.specs.Inside.Looked.{is_one_of}
use Rattle.dir_change.proofs.judged.others_exceed.Given as goal

abbrev pub invariant-loop-key : goal.invariant-loop-key
invariant-loop-key l =
    list_any (λ a. not (is_one_of a.0 l.keys) && (nat_lt 1 (fin.len a.1.values) && single_of l.schema a.0)) (fin.entries l.entry.attributes)
    ≡ list_any (λ a. not (is_one_of a.0 l.keys) && (nat_lt 1 (fin.len a.1.values) && single_of l.schema a.0)) l.key-iterator
