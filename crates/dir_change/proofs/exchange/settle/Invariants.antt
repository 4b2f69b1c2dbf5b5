use Rattle.std.proofs.Common.{◌≡◌}
use Rattle.std.specs.FinMap as fin
use Rattle.dir_change.specs.Inside.Exchanged.{all_settled}
use Rattle.dir_change.proofs.exchange.settle.Given as goal

abbrev pub invariant-loop-key : goal.invariant-loop-key
invariant-loop-key l =
    all_settled l.initial.after l.initial.attributes (fin.entries l.before) ≡ all_settled l.after l.attributes l.key-iterator
