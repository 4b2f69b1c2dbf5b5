use Rattle.std.proofs.Common.{List, None, Vec, Global, map, subst, sym}
use Rattle.dir_ldif.specs.declared.reader.unfolder.Line.{Line}
use Rattle.dir_tools.specs.AccessReport.{Configured}
use Rattle.dir_tools.specs.Inside.Asking.{configured_under}
use Rattle.dir_questions.specs.Reading.{block_in}
use Rattle.dir_questions.specs.Runs.{HasLines, QuestionSources, question_sources}
use Rattle.dir_questions.proofs.RunLemmas.{after_both, fault_answers, first_of, no_texts, not_of_questions, not_writing, nothing_written, of_lines, of_no_lines}
use Rattle.dir_questions.proofs.Sources.{asks_these}
use Rattle.dir_questions.proofs.run.run_under.Goals as goal

-- no blocks of lines

pub returns-in-Err-clause-answer : goal.returns-in-Err-clause-answer
returns-in-Err-clause-answer g c =
    let rows = c.args.schema.now in
    let found : Configured = configured_under rows c.args.config.now in
    let questions = g.R.Source.left c.args.questions.now in
    let copy = g.R2.Source.left c.args.copy.now in
    let why = c.in-Err.fault in
    let unknown : QuestionSources = question_sources None questions copy in (
      no_texts,
      nothing_written rows unknown c.args.options.answers why no_texts _ _ (of_no_lines rows None questions copy copy found tt _ _ why c.in-Err.ensures.err).0,
      λ start known is. fault_answers start c.args.options known questions copy why no_texts (of_no_lines start known questions copy copy found is _ _ why c.in-Err.ensures.err).0,
    )

pub returns-in-Err-clause-first : goal.returns-in-Err-clause-first
returns-in-Err-clause-first g c start known is =
    let copy = g.R2.Source.left c.args.copy.now in
    (of_no_lines start known (g.R.Source.left c.args.questions.now) copy copy (configured_under c.args.schema.now c.args.config.now) is _ _ c.in-Err.fault c.in-Err.ensures.err).1

pub returns-in-Err-clause-after : goal.returns-in-Err-clause-after
returns-in-Err-clause-after g c =
    let copy = g.R2.Source.left c.args.copy.now in
    (of_no_lines c.args.schema.now None (g.R.Source.left c.args.questions.now) copy copy (configured_under c.args.schema.now c.args.config.now) tt _ _ c.in-Err.fault c.in-Err.ensures.err).2

pub returns-in-Err-clause-write_report : goal.returns-in-Err-clause-write_report
returns-in-Err-clause-write_report g c is =
    let rows = c.args.schema.now in
    let questions = g.R.Source.left c.args.questions.now in
    let copy = g.R2.Source.left c.args.copy.now in
    let unknown : QuestionSources = question_sources None questions copy in
    absurd ((not_writing rows unknown c.in-Err.fault (of_no_lines rows None questions copy copy (configured_under rows c.args.config.now) tt _ _ c.in-Err.fault c.in-Err.ensures.err).0).1 (cc is))

pub returns-in-Err-clause-write_answers : goal.returns-in-Err-clause-write_answers
returns-in-Err-clause-write_answers g c is =
    let rows = c.args.schema.now in
    let questions = g.R.Source.left c.args.questions.now in
    let copy = g.R2.Source.left c.args.copy.now in
    let unknown : QuestionSources = question_sources None questions copy in
    absurd ((not_writing rows unknown c.in-Err.fault (of_no_lines rows None questions copy copy (configured_under rows c.args.config.now) tt _ _ c.in-Err.fault c.in-Err.ensures.err).0).0 (cc is))

-- the questions are answered

pub returns-in-Ok-read_questions-clause-answer : goal.returns-in-Ok-read_questions-clause-answer
returns-in-Ok-read_questions-clause-answer g c =
    let rows = c.args.schema.now in
    let questions = g.R.Source.left c.args.questions.now in
    let asks = asks_these rows questions c.in-Ok.lines.items c.as_slice.result.now c.in-Ok-read_questions.blocks.items c.as_slice-in-Ok-read_questions.result.now
    c.in-Ok.ensures.ok c.as_slice.ensures.value c.in-Ok-read_questions.ensures c.as_slice-in-Ok-read_questions.ensures.value in
    let h = c.answer_questions.ensures.answer in
    (h.0, h.1, λ start known is. h.2 start known questions is asks)

pub returns-in-Ok-read_questions-clause-first : goal.returns-in-Ok-read_questions-clause-first
returns-in-Ok-read_questions-clause-first g c =
    let rows = c.args.schema.now in
    let questions = g.R.Source.left c.args.questions.now in
    let asks = asks_these rows questions c.in-Ok.lines.items c.as_slice.result.now c.in-Ok-read_questions.blocks.items c.as_slice-in-Ok-read_questions.result.now
    c.in-Ok.ensures.ok c.as_slice.ensures.value c.in-Ok-read_questions.ensures c.as_slice-in-Ok-read_questions.ensures.value in
    first_of questions (g.R2.Source.left c.args.copy.now) (g.R2.Source.left c.answer_questions.new.copy) (configured_under rows c.args.config.now) (map block_in c.as_slice-in-Ok-read_questions.result.now) asks
    c.answer_questions.result c.answer_questions.ensures.first

pub returns-in-Ok-read_questions-clause-after : goal.returns-in-Ok-read_questions-clause-after
returns-in-Ok-read_questions-clause-after g c = after_both c.answer_questions.result c.answer_questions.ensures.after

pub returns-in-Ok-read_questions-clause-read_questions : goal.returns-in-Ok-read_questions-clause-read_questions
returns-in-Ok-read_questions-clause-read_questions g c is = absurd (not_of_questions c.answer_questions.result c.answer_questions.ensures.after is)

-- the lines are at fault

pub returns-clause-answer : goal.returns-clause-answer
returns-clause-answer g c =
    let rows = c.args.schema.now in
    let found : Configured = configured_under rows c.args.config.now in
    let questions = g.R.Source.left c.args.questions.now in
    let copy = g.R2.Source.left c.args.copy.now in
    let why = c.in-Err-read_questions.fault in
    let has = subst (λ (lines : List (Vec Line Global)). HasLines (g.R.Source.left c.args.questions.now) (map (λ block. block.items) lines)) (sym c.as_slice.ensures.value) c.in-Ok.ensures.ok in
    let unknown : QuestionSources = question_sources None questions copy in (
      no_texts,
      nothing_written rows unknown c.args.options.answers why no_texts _ _ (of_lines rows None questions copy copy found tt c.as_slice.result.now why has c.in-Err-read_questions.ensures).0,
      λ start known is. fault_answers start c.args.options known questions copy why no_texts (of_lines start known questions copy copy found is c.as_slice.result.now why has c.in-Err-read_questions.ensures).0,
    )

pub returns-clause-first : goal.returns-clause-first
returns-clause-first g c start known is =
    let has = subst (λ (lines : List (Vec Line Global)). HasLines (g.R.Source.left c.args.questions.now) (map (λ block. block.items) lines)) (sym c.as_slice.ensures.value) c.in-Ok.ensures.ok in
    let copy = g.R2.Source.left c.args.copy.now in
    (of_lines start known (g.R.Source.left c.args.questions.now) copy copy (configured_under c.args.schema.now c.args.config.now) is c.as_slice.result.now c.in-Err-read_questions.fault has c.in-Err-read_questions.ensures).1

pub returns-clause-after : goal.returns-clause-after
returns-clause-after g c =
    let has = subst (λ (lines : List (Vec Line Global)). HasLines (g.R.Source.left c.args.questions.now) (map (λ block. block.items) lines)) (sym c.as_slice.ensures.value) c.in-Ok.ensures.ok in
    let copy = g.R2.Source.left c.args.copy.now in
    (of_lines c.args.schema.now None (g.R.Source.left c.args.questions.now) copy copy (configured_under c.args.schema.now c.args.config.now) tt c.as_slice.result.now c.in-Err-read_questions.fault has c.in-Err-read_questions.ensures).2

pub returns-clause-write_report : goal.returns-clause-write_report
returns-clause-write_report g c is =
    let rows = c.args.schema.now in
    let found : Configured = configured_under rows c.args.config.now in
    let questions = g.R.Source.left c.args.questions.now in
    let copy = g.R2.Source.left c.args.copy.now in
    let why = c.in-Err-read_questions.fault in
    let has = subst (λ (lines : List (Vec Line Global)). HasLines (g.R.Source.left c.args.questions.now) (map (λ block. block.items) lines)) (sym c.as_slice.ensures.value) c.in-Ok.ensures.ok in
    let unknown : QuestionSources = question_sources None questions copy in
    absurd ((not_writing rows unknown why (of_lines rows None questions copy copy found tt c.as_slice.result.now why has c.in-Err-read_questions.ensures).0).1 (cc is))

pub returns-clause-write_answers : goal.returns-clause-write_answers
returns-clause-write_answers g c is =
    let rows = c.args.schema.now in
    let found : Configured = configured_under rows c.args.config.now in
    let questions = g.R.Source.left c.args.questions.now in
    let copy = g.R2.Source.left c.args.copy.now in
    let why = c.in-Err-read_questions.fault in
    let has = subst (λ (lines : List (Vec Line Global)). HasLines (g.R.Source.left c.args.questions.now) (map (λ block. block.items) lines)) (sym c.as_slice.ensures.value) c.in-Ok.ensures.ok in
    let unknown : QuestionSources = question_sources None questions copy in
    absurd ((not_writing rows unknown why (of_lines rows None questions copy copy found tt c.as_slice.result.now why has c.in-Err-read_questions.ensures).0).0 (cc is))
