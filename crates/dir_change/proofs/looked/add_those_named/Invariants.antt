use Rattle.std.proofs.Common.{◌≡◌}
use Rattle.std.specs.FinMap as fin
use Rattle.dir_change.specs.Inside.Looked.{with_each}
use Rattle.dir_change.proofs.looked.add_those_named.Given as goal

abbrev pub invariant-loop-key : goal.invariant-loop-key
invariant-loop-key l = with_each l.attribute.stored.values l.fn.values (fin.entries l.named) ≡ with_each l.attribute.stored.values l.values l.key-iterator
