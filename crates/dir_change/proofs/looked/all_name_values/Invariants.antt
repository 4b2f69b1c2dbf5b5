use Rattle.std.proofs.Common.{◌≡◌, drop}
use Rattle.dir_change.specs.Inside.Looked.{all_name_values}
use Rattle.dir_change.proofs.looked.all_name_values.Given as goal

abbrev pub invariant-loop-m : goal.invariant-loop-m
invariant-loop-m l = all_name_values l.key l.mods ≡ all_name_values l.key (drop l.m-index l.mods)
