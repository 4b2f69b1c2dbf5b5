use Rattle.dir_questions.proofs.AnswersLaw.{answers_are_reports}
use Rattle.dir_questions.proofs.laws.answers_are_reports.Goals as goal

pub returns : goal.returns
returns c = answers_are_reports
