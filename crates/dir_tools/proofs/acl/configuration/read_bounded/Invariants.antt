use Rattle.std.proofs.Common.{◌≡◌, ◌-◌, ◌≤◌, length}
use Rattle.std.specs.Io.KnownBytes.{Consumes}
use Rattle.dir_tools.proofs.acl.configuration.read_bounded.Given as goal

abbrev pub invariant-loop-buffer : goal.invariant-loop-buffer
invariant-loop-buffer g l =
    record {
      taken : Consumes (g.R.Source.left l.initial.source) (g.R.Source.left l.source) l.text.items;
      bounded : length l.text.items ≤ 16785408;
      unfailed : g.R.Source.failures l.source ≡ g.R.Source.failures l.initial.source;
    }

abbrev pub decreases-loop-buffer : goal.decreases-loop-buffer
decreases-loop-buffer g l = 16777217 - length l.text.items
