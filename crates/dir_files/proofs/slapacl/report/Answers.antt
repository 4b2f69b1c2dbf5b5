use Rattle.std.proofs.Common.{Err, None, Ok, Result, [], ap, arith, inr, refl}
use Rattle.dir_tools.specs.declared.fault.ToolFault.{ToolFault}
use Rattle.dir_tools.specs.AccessAnswers.{AccessSources, access_sources}
use Rattle.dir_tools.specs.AccessReport.{AccessTerms, access_terms}
use Rattle.dir_files.proofs.AccessCalls.{asks_and_ends, asks_over}
use Rattle.dir_files.specs.Faults.{IsRunFault}
use Rattle.dir_files.proofs.CallLemmas.{no_report_due, report_refused}
use Rattle.dir_files.proofs.FailureLemmas.{by_question}
use Rattle.dir_files.proofs.slapacl.report.Goals as goal

pub returns-in-Ok-clause-calls : goal.returns-in-Ok-clause-calls
returns-in-Ok-clause-calls g c start known is =
    let t : AccessTerms = access_terms start c.args.question.now in
    let sources : AccessSources = access_sources known (g.R.Source.left c.args.copy.now) in
    let answer : Result Unit ToolFault = Ok c.in-Ok.field-0 in
    let h = c.in-Ok.ensures.answer in
    let told = h.2 start known is in
    asks_and_ends t sources answer c.as_slice.result.now (Err c.not_reported.result) (g.F.FileSystem.disk c.args.files.now) (g.F.FileSystem.disk c.report.new.self)
    (asks_over t sources answer h.0 _ _ c.as_slice.result.now h.1 told.0 told.1 c.new-report.ensures c.as_slice.ensures)
    (report_refused IsRunFault c.as_slice.result.now c.in-Ok.field-0 c.in-Err-report.why c.not_reported.result (g.F.FileSystem.disk c.args.files.now) (g.F.FileSystem.disk c.report.new.self)
    c.in-Err-report.ensures.told c.not_reported.ensures)

pub returns-clause-calls : goal.returns-clause-calls
returns-clause-calls g c start known is =
    let t : AccessTerms = access_terms start c.args.question.now in
    let sources : AccessSources = access_sources known (g.R.Source.left c.args.copy.now) in
    let answer : Result Unit ToolFault = Err c.in-Err.fault in
    let h = c.in-Err.ensures.answer in
    let told = h.2 start known is in
    asks_and_ends t sources answer c.run_acl_under.new.report.bytes.items (Err c.run_fault.result) (g.F.FileSystem.disk c.args.files.now) (g.F.FileSystem.disk c.args.files.now)
    (asks_over t sources answer h.0 _ _ c.run_acl_under.new.report.bytes.items h.1 told.0 told.1 c.new-report.ensures refl)
    (no_report_due Unit IsRunFault c.run_acl_under.new.report.bytes.items c.in-Err.fault c.run_fault.result (g.F.FileSystem.disk c.args.files.now) c.run_fault.ensures)

pub returns-clause-failed : goal.returns-clause-failed
returns-clause-failed g c =
    let h = c.in-Err.ensures.answer in
    let told = h.2 [] None tt in record {
      grows = omega (arith);
      failed = λ tells.
          by_question _ (access_terms [] c.args.question.now) (access_sources None (g.R.Source.left c.args.copy.now)) _ h.0 c.in-Err.fault c.run_fault.result c.run_fault.ensures
          h.1 told.0 c.in-Err.ensures.after tells (λ is. inr (c.in-Err.ensures.read_copy (ap Err is)));
    }
