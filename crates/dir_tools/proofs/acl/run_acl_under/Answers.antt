use Rattle.std.proofs.Common.{[], List, None, OnOk, ℕ, subst}
use Rattle.dir_tools.specs.declared.fault.Output.TheVariants as output
use Rattle.dir_tools.specs.AccessAnswers.{AccessSources, access_sources}
use Rattle.dir_tools.specs.AccessReport.{AccessTerms, access_terms}
use Rattle.dir_tools.specs.Writing.{TookPrefix, TookWhole}
use Rattle.dir_tools.proofs.AccessLemmas.{answers_so, not_writing, nothing_written, report_answers, report_written, whole_answer}
use Rattle.dir_tools.proofs.acl.run_acl_under.Goals as goal

pub returns-in-Err-clause-answer : goal.returns-in-Err-clause-answer
returns-in-Err-clause-answer g c =
    let t : AccessTerms = access_terms c.args.schema.now c.args.question.now in
    let copy = g.R.Source.left c.args.copy.now in
    let unknown : AccessSources = access_sources None copy in (
      [],
      nothing_written Unit t unknown c.in-Err.fault (g.W.Sink.taken c.args.report.now) (c.in-Err.ensures.blamed c.args.schema.now None tt),
      λ start known is. (
        answers_so Unit (access_terms start c.args.question.now) (access_sources known copy) c.in-Err.fault [] (c.in-Err.ensures.blamed start known is),
        whole_answer Unit (access_terms start c.args.question.now) known copy c.in-Err.fault [] (c.in-Err.ensures.blamed start known is),
      ),
    )

pub returns-in-Err-clause-write_report : goal.returns-in-Err-clause-write_report
returns-in-Err-clause-write_report g c is =
    let t : AccessTerms = access_terms c.args.schema.now c.args.question.now in
    let unknown : AccessSources = access_sources None (g.R.Source.left c.args.copy.now) in
    absurd (not_writing t unknown c.in-Err.fault output.Report (c.in-Err.ensures.blamed c.args.schema.now None tt) (cc is))

pub returns-clause-answer : goal.returns-clause-answer
returns-clause-answer g c =
    let copy = g.R.Source.left c.args.copy.now in
    let report = c.in-Ok.text.items in
    let taken = g.W.Sink.taken c.args.report.now in
    let taken' = g.W.Sink.taken c.write_text.new.writer in
    let front : TookPrefix (taken, taken') report = subst (λ (text : List ℕ). TookPrefix (taken, taken') text) c.as_slice.ensures.value c.write_text.ensures.front in
    let whole : OnOk c.write_text.result (TookWhole (taken, taken') report) = subst (λ (text : List ℕ). OnOk c.write_text.result (TookWhole (taken, taken') text)) c.as_slice.ensures.value c.write_text.ensures.ok in
    (report, report_written Unit taken taken' report c.write_text.result whole front c.write_text.ensures.fault, λ start known is. report_answers Unit (access_terms start c.args.question.now) known copy report output.Report c.write_text.result c.write_text.ensures.fault (c.in-Ok.ensures.ok start known is))
