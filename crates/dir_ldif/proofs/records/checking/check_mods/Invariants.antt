use Rattle.std.proofs.Common.{◌≡◌, drop}
use Rattle.dir_ldif.specs.LegalRecords.{check_of_mod, first_fault}
use Rattle.dir_ldif.proofs.records.checking.check_mods.Given as goal

abbrev pub invariant-loop-m : goal.invariant-loop-m
invariant-loop-m l = first_fault (check_of_mod l.schema) l.mods ≡ first_fault (check_of_mod l.schema) (drop l.m-index l.mods)
