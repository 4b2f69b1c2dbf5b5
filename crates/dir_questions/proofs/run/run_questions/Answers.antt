use Rattle.dir_questions.specs.declared.fault.QuestionsFault.TheVariants as fault
use Rattle.dir_questions.specs.Runs.{IsFaultOfQuestions, QuestionSources, question_sources}
use Rattle.dir_questions.proofs.RunLemmas.{config_blamed, fault_answers, no_texts, nothing_written}
use Rattle.dir_questions.proofs.run.run_questions.Goals as goal

pub returns-in-Err-clause-answer : goal.returns-in-Err-clause-answer
returns-in-Err-clause-answer g c =
    let start = c.args.schema.now in
    let config = g.R.Source.left c.args.config.now in
    let questions = g.R2.Source.left c.args.questions.now in
    let copy = g.R3.Source.left c.args.copy.now in
    let known : QuestionSources = question_sources config questions copy in
    let blamed : IsFaultOfQuestions start known (fault.Tool c.in-Err.fault) = config_blamed start known c.in-Err.fault c.in-Err.ensures.fault in
    let answer = fault_answers start c.args.options config questions copy (fault.Tool c.in-Err.fault) no_texts blamed in
    (no_texts, nothing_written start known c.args.options.answers (fault.Tool c.in-Err.fault) no_texts _ _ blamed, answer.0, answer.1)
