use Rattle.std.proofs.Common.{◌≡◌, drop}
use Rattle.dir_conf_text.specs.Inside.Wanting.{after_bytes, wanting_of}
use Rattle.dir_conf_text.proofs.physical.after_bytes.Given as goal

abbrev pub invariant-loop-b : goal.invariant-loop-b
invariant-loop-b l = after_bytes (wanting_of l.initial.wanting) l.bytes ≡ after_bytes (wanting_of l.wanting) (drop l.b-index l.bytes)
