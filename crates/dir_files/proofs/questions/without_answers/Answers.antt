use Rattle.std.proofs.Common.{Err, Result, refl, rules, subst, sym, ◌≡◌}
use Rattle.dir_questions.specs.declared.report.Tally.{Tally}
use Rattle.dir_questions.specs.Runs.{QuestionSources, question_sources}
use Rattle.dir_files.specs.declared.fault.Fault.{Fault}
use Rattle.dir_files.specs.QuestionRuns.{ReportsAnswers}
use Rattle.dir_files.specs.Runs.{Made}
use Rattle.dir_files.proofs.QuestionCalls.{no_report, over_report, reports_answers}
use Rattle.dir_files.proofs.questions.without_answers.Goals as goal

pub returns-in_err-tally-clause-calls : goal.returns-in_err-tally-clause-calls
returns-in_err-tally-clause-calls g c =
    let words = c.args.words.now in
    let a = g.F.FileSystem.disk c.args.files.now in
    let known : QuestionSources = question_sources (g.R.Source.left c.args.config.now) (g.R2.Source.left c.args.questions.now) (g.R3.Source.left c.args.copy.now) in
    let fault = c.in_err-tally.field-0.0 in
    let told : Result Tally Fault = Err fault in
    let result : c.from_residual.result ≡ told = search rules in
    subst (λ (r : Result Tally Fault). Made a a (λ d. ReportsAnswers words known r)) (sym result)
    (reports_answers words known told c.answered.new.report.bytes.items told a a
    (over_report words known told _ _ _ c.answered.new.report.bytes.items c.in_err-tally.ensures.answer c.new-report.ensures refl) (no_report c.answered.new.report.bytes.items fault a))
