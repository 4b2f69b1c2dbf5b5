use Rattle.std.proofs.Common.{◌≡◌}
use Rattle.std.specs.FinMap as fin
use Rattle.dir_change.specs.Inside.Exchanged.{grown_by}
use Rattle.dir_change.proofs.ExchangedInTurn.{HasMore}
use Rattle.dir_change.proofs.exchange.grow_values.Given as goal

abbrev pub invariant-loop-key : goal.invariant-loop-key
invariant-loop-key l =
    (grown_by l.initial.values (fin.entries l.after.stored.values) ≡ grown_by l.values l.key-iterator)
    × HasMore l.initial.values l.values
