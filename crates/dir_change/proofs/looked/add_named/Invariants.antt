use Rattle.std.proofs.Common.{◌≡◌, drop}
use Rattle.dir_change.specs.Inside.Looked.{with_names}
use Rattle.dir_change.proofs.looked.add_named.Given as goal

abbrev pub invariant-loop-value : goal.invariant-loop-value
invariant-loop-value l = with_names l.schema l.m.description.key l.initial.named l.m.values ≡ with_names l.schema l.m.description.key l.named (drop l.value-index l.value-items)
