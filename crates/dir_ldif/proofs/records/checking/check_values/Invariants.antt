use Rattle.std.proofs.Common.{◌≡◌, drop}
use Rattle.dir_ldif.specs.LegalRecords.{check_of_value, first_fault}
use Rattle.dir_ldif.proofs.records.checking.check_values.Given as goal

abbrev pub invariant-loop-value : goal.invariant-loop-value
invariant-loop-value l = first_fault check_of_value l.values ≡ first_fault check_of_value (drop l.value-index l.values)
