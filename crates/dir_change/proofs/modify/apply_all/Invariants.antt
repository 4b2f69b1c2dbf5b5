use Rattle.std.proofs.Common.{◌≡◌, drop}
use Rattle.dir_change.specs.Modify.{attributes_after}
use Rattle.dir_change.proofs.modify.apply_all.Given as goal

abbrev pub invariant-loop-m : goal.invariant-loop-m
invariant-loop-m l = attributes_after l.schema l.initial.attributes l.mods ≡ attributes_after l.schema l.attributes (drop l.m-index l.mods)
