use Rattle.std.proofs.Common.{◌≡◌, ◌++◌, ℕ, List, length}
use Rattle.std.specs.Io.KnownBytes.{Appends}
use Rattle.dir_ldif.proofs.device.whole.write_whole.Given as goal

abbrev pub invariant-loop-rest : goal.invariant-loop-rest
invariant-loop-rest g l =
    (g.W.Sink.failures l.sink ≡ g.W.Sink.failures l.fn.sink)
    × ((front : List ℕ) × Appends (g.W.Sink.taken l.fn.sink) (g.W.Sink.taken l.sink) front × (l.text ≡ front ++ l.rest))

abbrev pub decreases-loop-rest : goal.decreases-loop-rest
decreases-loop-rest g l = length l.rest
