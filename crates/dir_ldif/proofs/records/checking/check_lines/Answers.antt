use Rattle.std.proofs.lemmas.Result.{err_from_is_err_and}
use Rattle.dir_ldif.specs.LegalRecords.{check_of_line}
use Rattle.dir_ldif.proofs.LegalLemmas.{first_fault-stop}
use Rattle.dir_ldif.proofs.records.checking.check_lines.Goals as goal

pub returns-in_err-check_line : goal.returns-in_err-check_line
returns-in_err-check_line c =
    let e = err_from_is_err_and c.from_residual.result c.from_residual.ensures.1 in
    rw (e.1, e.2) (
    first_fault-stop (check_of_line c.args.schema.now) c.in_err-check_line.field-0.0 c.args.lines.now c.loop-line.line-index c.line-item.result c.loop-line.invariant c.loop-line-test.true c.line-item.is c.in_err-check_line.ensures
    )
