use Rattle.std.proofs.Common.{Err, Ok, Result, arith, refl, ◌≤◌}
use Rattle.dir_questions.specs.declared.report.Tally.{Tally}
use Rattle.dir_questions.specs.Runs.{QuestionSources, question_sources}
use Rattle.dir_files.specs.declared.fault.Fault.{Fault}
use Rattle.dir_files.proofs.FailureLemmas.{into_draft}
use Rattle.dir_files.proofs.QuestionCalls.{answers_into, draft_removed, ends_named, over_report, told_by_end}
use Rattle.dir_files.proofs.questions.with_answers.Goals as goal

pub returns-in-Ok-answered-clause-calls : goal.returns-in-Ok-answered-clause-calls
returns-in-Ok-answered-clause-calls g c =
    let words = c.args.words.now in
    let known : QuestionSources = question_sources (g.R.Source.left c.args.config.now) (g.R2.Source.left c.args.questions.now) (g.R3.Source.left c.args.copy.now) in
    let told : Result Tally Fault = Ok c.in-Ok-answered.tally in
    answers_into c.args.path.now c.args.mode words known c.finish.result told (g.F.Draft.Sink.taken c.in-Ok.draft) (g.F.Draft.Sink.taken c.answered.new.answers) c.as_slice.result.now
    (g.F.FileSystem.disk c.args.files.now) (g.F.FileSystem.disk c.create.new.self) (g.F.FileSystem.disk c.finish.new.files) c.in-Ok.ensures.told c.in-Ok.ensures.empty
    (over_report words known told _ _ _ c.as_slice.result.now c.in-Ok-answered.ensures.answer c.new-report.ensures c.as_slice.ensures) c.finish.ensures.calls

pub returns-in-Ok-answered-clause-notes : goal.returns-in-Ok-answered-clause-notes
returns-in-Ok-answered-clause-notes g c =
    told_by_end _ c.args.words.now.strict (g.R.Source.left c.args.config.now) c.args.path.now c.in-Ok-answered.tally c.finish.result
    (g.T.NoteTeller.given c.args.teller.now) (g.T.NoteTeller.given c.answered.new.teller) c.in-Ok-answered.ensures.notes c.finish.ensures.faults

pub returns-clause-faults : goal.returns-clause-faults
returns-clause-faults g c = ends_named c.args.words.now c.in-Err-answered.fault c.in-Err-answered.ensures.faults

pub returns-clause-calls : goal.returns-clause-calls
returns-clause-calls g c =
    let words = c.args.words.now in
    let known : QuestionSources = question_sources (g.R.Source.left c.args.config.now) (g.R2.Source.left c.args.questions.now) (g.R3.Source.left c.args.copy.now) in
    let told : Result Tally Fault = Err c.in-Err-answered.fault in
    answers_into c.args.path.now c.args.mode words known told told (g.F.Draft.Sink.taken c.in-Ok.draft) (g.F.Draft.Sink.taken c.answered.new.answers) c.answered.new.report.bytes.items
    (g.F.FileSystem.disk c.args.files.now) (g.F.FileSystem.disk c.create.new.self) (g.F.FileSystem.disk c.discard.new.self) c.in-Ok.ensures.told c.in-Ok.ensures.empty
    (over_report words known told _ _ _ c.answered.new.report.bytes.items c.in-Err-answered.ensures.answer c.new-report.ensures refl)
    (draft_removed c.args.path.now (g.F.Draft.Sink.taken c.answered.new.answers) c.answered.new.report.bytes.items c.in-Err-answered.fault (g.F.FileSystem.disk c.create.new.self) (g.F.FileSystem.disk c.discard.new.self) c.discard.ensures.told)

pub returns-clause-failed : goal.returns-clause-failed
returns-clause-failed g c =
    let created = c.in-Ok.ensures.count.counts in
    let back = c.discard.ensures.count in
    let before = g.F.FileSystem.failures c.args.files.now in
    let drafted = g.F.FileSystem.failures c.create.new.self in
    let same : before ≤ drafted = omega (arith, created) in record {
      grows = omega (arith, same, back.grows);
      failed = λ tells.
          into_draft _ _ _ before drafted (g.F.FileSystem.failures c.discard.new.self) _ _ (g.met.F.FileSystem.never_stalls _) same c.in-Ok.ensures.fresh back
          (c.in-Err-answered.ensures.failed tells);
    }
