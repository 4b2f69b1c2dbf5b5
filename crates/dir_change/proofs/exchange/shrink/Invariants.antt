use Rattle.std.proofs.Common.{◌≡◌}
use Rattle.std.specs.FinMap as fin
use Rattle.dir_change.specs.Inside.Exchanged.{all_shrunk}
use Rattle.dir_change.proofs.exchange.shrink.Given as goal

abbrev pub invariant-loop-key : goal.invariant-loop-key
invariant-loop-key l =
    all_shrunk l.before l.initial.attributes (fin.entries l.after) ≡ all_shrunk l.before l.attributes l.key-iterator
