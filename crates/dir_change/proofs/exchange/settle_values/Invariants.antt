use Rattle.std.proofs.Common.{◌≡◌}
use Rattle.std.specs.FinMap as fin
use Rattle.dir_change.specs.Inside.Exchanged.{settled_by}
use Rattle.dir_change.proofs.exchange.settle_values.Given as goal

abbrev pub invariant-loop-key : goal.invariant-loop-key
invariant-loop-key l = settled_by l.initial.after.stored.values l.initial.values (fin.entries l.before.stored.values) ≡ settled_by l.after.stored.values l.values l.key-iterator
