use Rattle.std.proofs.Common.{take}
use Rattle.dir_change.specs.Inside.Touched.{IsPartAt}
use Rattle.dir_change.proofs.touched.attributes_at.Given as goal

abbrev pub invariant-loop-key : goal.invariant-loop-key
invariant-loop-key l = IsPartAt (take l.key-index l.keys) l.entry.attributes l.part
