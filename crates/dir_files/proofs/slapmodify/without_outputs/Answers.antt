use Rattle.std.proofs.Common.{Err, Ok, Result, inl, inr, refl, ap, arith}
use Rattle.dir_tools.specs.declared.fault.ToolFault.{ToolFault}
use Rattle.dir_tools.specs.declared.run.Summary.{Summary}
use Rattle.dir_tools.specs.Headline.{RunTerms}
use Rattle.dir_tools.specs.RunAnswers.{Sources, sources}
use Rattle.dir_files.specs.Faults.{IsModifyFault}
use Rattle.dir_files.specs.Runs.{terms_of}
use Rattle.dir_files.proofs.CallLemmas.{no_report_due, report_refused, runs_over, writes_report}
use Rattle.dir_files.proofs.FailureLemmas.{by_device, never_fails}
use Rattle.dir_files.proofs.slapmodify.without_outputs.Goals as goal

pub returns-in-Ok-clause-calls : goal.returns-in-Ok-clause-calls
returns-in-Ok-clause-calls g c =
    let q : RunTerms = terms_of c.args.schema.now c.args.words.now in
    let known : Sources = sources (g.R.Source.left c.args.copy.now) (g.R2.Source.left c.args.changes.now) in
    let answer : Result Summary ToolFault = Ok c.in-Ok.summary in
    let h = c.in-Ok.ensures.headline in
    writes_report q known answer c.as_slice.result.now (Err c.not_reported.result) (g.F.FileSystem.disk c.args.files.now) (g.F.FileSystem.disk c.report.new.self)
    (runs_over q known answer h.0 _ _ _ _ c.as_slice.result.now h.1 h.2 h.3 c.new-report.ensures c.as_slice.ensures)
    (report_refused (IsModifyFault c.args.words.now.options.last) c.as_slice.result.now c.in-Ok.summary c.in-Err-report.why c.not_reported.result (g.F.FileSystem.disk c.args.files.now) (g.F.FileSystem.disk c.report.new.self)
    c.in-Err-report.ensures.told c.not_reported.ensures)

pub returns-clause-calls : goal.returns-clause-calls
returns-clause-calls g c =
    let q : RunTerms = terms_of c.args.schema.now c.args.words.now in
    let known : Sources = sources (g.R.Source.left c.args.copy.now) (g.R2.Source.left c.args.changes.now) in
    let answer : Result Summary ToolFault = Err c.in-Err.fault in
    let h = c.in-Err.ensures.headline in
    writes_report q known answer c.with_files.new.report.bytes.items (Err c.modify_fault.result) (g.F.FileSystem.disk c.args.files.now) (g.F.FileSystem.disk c.args.files.now)
    (runs_over q known answer h.0 _ _ _ _ c.with_files.new.report.bytes.items h.1 h.2 h.3 c.new-report.ensures refl)
    (no_report_due Summary (IsModifyFault c.args.words.now.options.last) c.with_files.new.report.bytes.items c.in-Err.fault c.modify_fault.result (g.F.FileSystem.disk c.args.files.now) c.modify_fault.ensures.told)

pub returns-clause-failed : goal.returns-clause-failed
returns-clause-failed g c =
    let q : RunTerms = terms_of c.args.schema.now c.args.words.now in
    let known : Sources = sources (g.R.Source.left c.args.copy.now) (g.R2.Source.left c.args.changes.now) in
    let h = c.in-Err.ensures.headline in record {
      grows = omega arith;
      failed = λ tells.
          by_device _ c.args.words.now.options.last q known h.0 c.in-Err.fault c.modify_fault.result c.modify_fault.ensures.told h.2 tells
          (λ is. inr (inl (c.in-Err.ensures.read_copy (ap Err is))))
          (λ is. inr (inr (c.in-Err.ensures.read_changes (ap Err is))))
          (λ is. absurd (never_fails (c.in-Err.ensures.write_undo (ap Err is))))
          (λ is. absurd (never_fails (c.in-Err.ensures.write_out (ap Err is))));
    }
