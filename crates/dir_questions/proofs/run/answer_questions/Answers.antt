use Rattle.std.proofs.Common.{IfOk, None, ◌≡◌, map, subst}
use Rattle.dir_tools.specs.AccessReport.{Configured}
use Rattle.dir_tools.specs.Inside.Asking.{configured_under}
use Rattle.dir_questions.specs.declared.fault.QuestionsFault.TheVariants as fault
use Rattle.dir_questions.specs.declared.report.Tally.{Tally}
use Rattle.dir_questions.specs.Reading.{block_in}
use Rattle.dir_questions.specs.Runs.{QuestionSources, QuestionTexts, question_sources, texts_on}
use Rattle.dir_questions.proofs.RunLemmas.{fault_answers, no_texts, not_writing, nothing_written, of_copy, says_nothing, stated_of, texts_answer}
use Rattle.dir_questions.proofs.run.answer_questions.Goals as goal

pub returns-in-Ok-clause-answer : goal.returns-in-Ok-clause-answer
returns-in-Ok-clause-answer g c =
    let found : Configured = configured_under c.args.schema.now c.args.config.now in
    let copy = g.R.Source.left c.args.copy.now in
    let blocks = map block_in c.args.blocks.now in
    let h = c.in-Ok.ensures.ok in
    let texts : QuestionTexts = texts_on c.args.options found.configuration h.directory blocks in
    let tally = subst (λ (t : Tally). IfOk c.write_texts.result (λ tally. tally ≡ t)) h.texts.tally c.write_texts.ensures.tally in (
      texts,
      c.write_texts.ensures.wrote texts h.texts,
      λ start known questions is asks. texts_answer start c.args.options known questions copy texts c.write_texts.result c.write_texts.ensures.fault tally
          (stated_of start known questions copy copy found is blocks asks c.args.options c.in-Ok.texts h),
    )

pub returns-in-Ok-clause-first : goal.returns-in-Ok-clause-first
returns-in-Ok-clause-first g c = says_nothing _ c.write_texts.result (λ start known questions is asks. tt) (λ start known questions is asks. tt) c.write_texts.ensures.fault

pub returns-in-Ok-clause-after : goal.returns-in-Ok-clause-after
returns-in-Ok-clause-after g c = says_nothing _ c.write_texts.result tt tt c.write_texts.ensures.fault

pub returns-in-Err-clause-answer : goal.returns-in-Err-clause-answer
returns-in-Err-clause-answer g c =
    let rows = c.args.schema.now in
    let found : Configured = configured_under rows c.args.config.now in
    let copy = g.R.Source.left c.args.copy.now in
    let copy' = g.R.Source.left c.answered.new.copy in
    let blocks = map block_in c.args.blocks.now in
    let why = c.in-Err.fault in
    let unknown : QuestionSources = question_sources None None copy in (
      no_texts,
      nothing_written rows unknown c.args.options.answers (fault.Tool why) no_texts _ _ (of_copy rows None None copy copy' found tt blocks tt why c.in-Err.ensures.blamed).0,
      λ start known questions is asks. fault_answers start c.args.options known questions copy (fault.Tool why) no_texts (of_copy start known questions copy copy' found is blocks asks why c.in-Err.ensures.blamed).0,
    )

pub returns-in-Err-clause-first : goal.returns-in-Err-clause-first
returns-in-Err-clause-first g c start known questions is asks =
    (of_copy start known questions (g.R.Source.left c.args.copy.now) (g.R.Source.left c.answered.new.copy) (configured_under c.args.schema.now c.args.config.now) is
    (map block_in c.args.blocks.now) asks c.in-Err.fault c.in-Err.ensures.blamed).1

pub returns-in-Err-clause-after : goal.returns-in-Err-clause-after
returns-in-Err-clause-after g c =
    (of_copy c.args.schema.now None None (g.R.Source.left c.args.copy.now) (g.R.Source.left c.answered.new.copy) (configured_under c.args.schema.now c.args.config.now) tt
    (map block_in c.args.blocks.now) tt c.in-Err.fault c.in-Err.ensures.blamed).2

pub returns-in-Err-clause-write_report : goal.returns-in-Err-clause-write_report
returns-in-Err-clause-write_report g c is =
    let copy = g.R.Source.left c.args.copy.now in
    let unknown : QuestionSources = question_sources None None copy in
    let blamed = (of_copy c.args.schema.now None None copy (g.R.Source.left c.answered.new.copy) (configured_under c.args.schema.now c.args.config.now) tt (map block_in c.args.blocks.now) tt c.in-Err.fault c.in-Err.ensures.blamed).0 in
    absurd ((not_writing c.args.schema.now unknown (fault.Tool c.in-Err.fault) blamed).1 (cc is))
