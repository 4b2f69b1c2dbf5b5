use Rattle.std.proofs.Common.{◌≡◌, drop}
use Rattle.dir_ldif.specs.LegalRecords.{check_of_line, first_fault}
use Rattle.dir_ldif.proofs.records.checking.check_lines.Given as goal

abbrev pub invariant-loop-line : goal.invariant-loop-line
invariant-loop-line l = first_fault (check_of_line l.schema) l.lines ≡ first_fault (check_of_line l.schema) (drop l.line-index l.lines)
