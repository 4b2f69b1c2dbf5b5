use Rattle.std.proofs.Common.{ap}
use Rattle.std.specs.Option.{option_copied}
use Rattle.dir_questions.specs.Runs.{question_sources}
use Rattle.dir_files.proofs.QuestionCalls.{into_file}
use Rattle.dir_files.proofs.questions.answer_all.Goals as goal

pub returns-in-Some-clause-calls : goal.returns-in-Some-clause-calls
returns-in-Some-clause-calls g c =
    into_file c.args.words.now c.in-Some.path.now c.args.mode (question_sources (g.R.Source.left c.args.config.now) (g.R2.Source.left c.args.questions.now) (g.R3.Source.left c.args.copy.now)) c.with_answers.result
    (g.F.FileSystem.disk c.args.files.now) (g.F.FileSystem.disk c.with_answers.new.files) (ap option_copied c.in-Some.is) c.with_answers.ensures.calls
