use Rattle.std.proofs.Common.{◌≡◌}
use Rattle.std.specs.FinMap as fin
use Rattle.dir_change.specs.Inside.Exchanged.{shrunk_by}
use Rattle.dir_change.proofs.exchange.shrink_values.Given as goal

abbrev pub invariant-loop-key : goal.invariant-loop-key
invariant-loop-key l = shrunk_by l.before.stored.values l.initial.values (fin.entries l.after.stored.values) ≡ shrunk_by l.before.stored.values l.values l.key-iterator
