use Rattle.std.proofs.Common.{◌≡◌, drop}
use Rattle.std.specs.FinMap as fin
use Rattle.dir_change.specs.Inside.Looked.{all_named}
use Rattle.dir_change.proofs.looked.named_values.Given as goal

abbrev pub invariant-loop-m : goal.invariant-loop-m
invariant-loop-m l = all_named l.schema l.key fin.empty l.mods ≡ all_named l.schema l.key l.named (drop l.m-index l.mods)
