use Rattle.std.proofs.Common.{◌≡◌, Err, None, Ok, Result, [], ap, inl, inr, map, refl, rules, subst, sym, true, ◌∙◌}
use Rattle.dir_names.specs.Table.Builtin.{builtin_rows}
use Rattle.dir_questions.specs.declared.fault.QuestionsFault.TheVariants as suite
use Rattle.dir_questions.specs.declared.report.Tally.{Tally}
use Rattle.dir_questions.specs.declared.run.QuestionOptions.{QuestionOptions}
use Rattle.dir_questions.specs.Notes.{notes_on_questions}
use Rattle.dir_questions.specs.Reading.{block_in}
use Rattle.dir_questions.specs.Runs.{question_sources}
use Rattle.dir_questions.proofs.RunLemmas.{of_lines}
use Rattle.dir_questions.proofs.Sources.{asks_these}
use Rattle.dir_tools.specs.declared.fault.ToolFault.TheVariants as tool
use Rattle.dir_tools.specs.declared.acl.configuration.NotedConfig.{NotedConfig}
use Rattle.dir_tools.specs.Inside.Asking.{configured_under}
use Rattle.dir_files.specs.declared.fault.Fault.{Fault}
use Rattle.dir_files.specs.Notes.{AreNotesOf, AreOnQuestions, TellsFor}
use Rattle.dir_files.specs.QuestionRuns.{AnswersOrStops}
use Rattle.dir_files.proofs.FailureLemmas.{by_blocks, by_questions}
use Rattle.dir_files.proofs.NoteLemmas.{all_told, are_notes, ended, none_told, on_questions}
use Rattle.dir_files.proofs.QuestionCalls.{answers_over, at_fault, blocks_before, questions_after, untold}
use Rattle.dir_files.proofs.questions.answered_lines.Goals as goal

-- the lines are at fault

pub returns-in-Err-clause-answer : goal.returns-in-Err-clause-answer
returns-in-Err-clause-answer g c known questions is has =
    let copy = g.R.Source.left c.args.copy.now in
    let why = c.in-Err.fault in
    at_fault c.args.words.now known questions copy why c.questions_fault.result _ _
    (of_lines builtin_rows known questions copy copy (configured_under c.args.types.now c.args.config.now) is c.args.lines.now why has c.in-Err.ensures).0 c.questions_fault.ensures

pub returns-in-Err-clause-notes : goal.returns-in-Err-clause-notes
returns-in-Err-clause-notes g c known questions is read has =
    let why = c.in-Err.fault in
    untold (AreOnQuestions questions) c.args.words.now.strict known c.questions_fault.result (g.T.NoteTeller.given c.args.teller.now) why (blocks_before _ why c.in-Err.ensures) c.questions_fault.ensures

pub returns-in-Err-clause-failed : goal.returns-in-Err-clause-failed
returns-in-Err-clause-failed g c tells = absurd (by_blocks _ c.in-Err.fault c.questions_fault.result c.questions_fault.ensures c.in-Err.ensures tells)

-- memory runs out

pub returns-in_default-clause-answer : goal.returns-in_default-clause-answer
returns-in_default-clause-answer g c known questions is has =
    at_fault c.args.words.now known questions (g.R.Source.left c.args.copy.now) (suite.Tool tool.Memory) c.run_fault.result _ _ tt c.run_fault.ensures

pub returns-in_default-clause-notes : goal.returns-in_default-clause-notes
returns-in_default-clause-notes g c known questions is read has =
    none_told Tally (AreOnQuestions questions) c.args.words.now.strict known tool.Memory c.run_fault.result (g.T.NoteTeller.given c.args.teller.now) tt c.run_fault.ensures

-- the notes end the run

pub returns-in_err-tell-clause-answer : goal.returns-in_err-tell-clause-answer
returns-in_err-tell-clause-answer g c known questions is has =
    let sources = question_sources known questions (g.R.Source.left c.args.copy.now) in
    let result : c.from_residual.result ≡ Err c.in_err-tell.field-0.0 = search rules in
    subst (λ (r : Result Tally Fault). AnswersOrStops c.args.words.now sources r (g.W.Sink.taken c.args.answers.now, g.W.Sink.taken c.args.answers.now) (g.W2.Sink.taken c.args.report.now, g.W2.Sink.taken c.args.report.now)) (sym result)
    (inl (c.in_err-tell.ensures.err, refl, refl))

pub returns-in_err-tell-clause-notes : goal.returns-in_err-tell-clause-notes
returns-in_err-tell-clause-notes g c known questions is read has =
    let strict = c.args.words.now.strict in
    let fault = c.in_err-tell.field-0.0 in
    let asks = asks_these c.args.types.now questions c.args.lines.now c.args.lines.now c.in-Ok.blocks.items c.as_slice.result.now
    has refl c.in-Ok.ensures c.as_slice.ensures.value in
    let notes = c.as_slice-2.result.now in
    let blocks = map block_in c.as_slice.result.now in
    let noted : NotedConfig = record { types = c.args.types.now; config = c.args.config.now; notes = c.args.notes } in
    let are : AreNotesOf (AreOnQuestions questions) known notes =
    are_notes (AreOnQuestions questions) known builtin_rows noted (notes_on_questions c.args.types.now blocks) notes refl is read (on_questions questions c.args.types.now blocks asks) (c.as_slice-2.ensures.value ∙ c.in-Ok-with_notes_on_questions.ensures) in
    let result : c.from_residual.result ≡ Err fault = search rules in
    subst (λ (r : Result Tally Fault). TellsFor (AreOnQuestions questions) strict known r (g.T.NoteTeller.given c.args.teller.now) (g.T.NoteTeller.given c.tell.new.teller)) (sym result)
    (notes, c.in_err-tell.ensures.given, ended Tally (AreOnQuestions questions) strict known notes fault c.in_err-tell.ensures.err are c.in_err-tell.ensures.some)

-- the questions are answered

pub returns-in-Ok-answer_questions-clause-answer : goal.returns-in-Ok-answer_questions-clause-answer
returns-in-Ok-answer_questions-clause-answer g c known questions is has =
    let copy = g.R.Source.left c.args.copy.now in
    let asks = asks_these c.args.types.now questions c.args.lines.now c.args.lines.now c.in-Ok.blocks.items c.as_slice-3.result.now
    has refl c.in-Ok.ensures c.as_slice-3.ensures.value in
    let tally = c.in-Ok-answer_questions.tally in
    let h = c.in-Ok-answer_questions.ensures.answer in
    answers_over c.args.words.now (question_sources known questions copy) c.options_of.result (Ok tally) h.0 (Ok tally) _ _ c.options_of.ensures h.1 (h.2 builtin_rows known questions is asks) refl

pub returns-in-Ok-answer_questions-clause-notes : goal.returns-in-Ok-answer_questions-clause-notes
returns-in-Ok-answer_questions-clause-notes g c known questions is read has =
    let asks = asks_these c.args.types.now questions c.args.lines.now c.args.lines.now c.in-Ok.blocks.items c.as_slice.result.now
    has refl c.in-Ok.ensures c.as_slice.ensures.value in
    let notes = c.as_slice-2.result.now in
    let blocks = map block_in c.as_slice.result.now in
    let noted : NotedConfig = record { types = c.args.types.now; config = c.args.config.now; notes = c.args.notes } in
    let are : AreNotesOf (AreOnQuestions questions) known notes =
    are_notes (AreOnQuestions questions) known builtin_rows noted (notes_on_questions c.args.types.now blocks) notes refl is read (on_questions questions c.args.types.now blocks asks) (c.as_slice-2.ensures.value ∙ c.in-Ok-with_notes_on_questions.ensures) in
    (notes, c.in_ok-tell.ensures.given, (are, c.in_ok-tell.ensures.ok))

pub returns-clause-answer : goal.returns-clause-answer
returns-clause-answer g c known questions is has =
    let copy = g.R.Source.left c.args.copy.now in
    let asks = asks_these c.args.types.now questions c.args.lines.now c.args.lines.now c.in-Ok.blocks.items c.as_slice-3.result.now
    has refl c.in-Ok.ensures c.as_slice-3.ensures.value in
    let why = c.in-Err-answer_questions.fault in
    let h = c.in-Err-answer_questions.ensures.answer in
    let told : Result Tally Fault = Err c.questions_fault-in-Err-answer_questions.result in
    answers_over c.args.words.now (question_sources known questions copy) c.options_of.result (Err why) h.0 told _ _ c.options_of.ensures h.1 (h.2 builtin_rows known questions is asks) c.questions_fault-in-Err-answer_questions.ensures

pub returns-clause-notes : goal.returns-clause-notes
returns-clause-notes g c known questions is read has =
    let strict = c.args.words.now.strict in
    let asks = asks_these c.args.types.now questions c.args.lines.now c.args.lines.now c.in-Ok.blocks.items c.as_slice.result.now
    has refl c.in-Ok.ensures c.as_slice.ensures.value in
    let notes = c.as_slice-2.result.now in
    let blocks = map block_in c.as_slice.result.now in
    let noted : NotedConfig = record { types = c.args.types.now; config = c.args.config.now; notes = c.args.notes } in
    let are : AreNotesOf (AreOnQuestions questions) known notes =
    are_notes (AreOnQuestions questions) known builtin_rows noted (notes_on_questions c.args.types.now blocks) notes refl is read (on_questions questions c.args.types.now blocks asks) (c.as_slice-2.ensures.value ∙ c.in-Ok-with_notes_on_questions.ensures) in
    let why = c.in-Err-answer_questions.fault in
    let shown = c.questions_fault-in-Err-answer_questions.result in
    let failed : Result Tally Fault = Err shown in (
      notes,
      c.in_ok-tell.ensures.given,
      all_told (AreOnQuestions questions) strict known notes failed (questions_after why shown c.in-Err-answer_questions.ensures.after c.questions_fault-in-Err-answer_questions.ensures) are c.in_ok-tell.ensures.ok,
    )

pub returns-clause-failed : goal.returns-clause-failed
returns-clause-failed g c tells =
    let why = c.in-Err-answer_questions.fault in
    let h = c.in-Err-answer_questions.ensures.answer in
    let told = h.2 [] None None tt tt in
    by_questions _ [] c.options_of.result (question_sources None None (g.R.Source.left c.args.copy.now)) h.0 _ _ why c.questions_fault-in-Err-answer_questions.result
    c.questions_fault-in-Err-answer_questions.ensures h.1 told.0 c.in-Err-answer_questions.ensures.after tells
    (λ is. inl (c.in-Err-answer_questions.ensures.read_copy (ap Err is)))
    (λ wanted is. inr (subst (λ (o : QuestionOptions). o.answers ≡ true) c.options_of.ensures wanted, c.in-Err-answer_questions.ensures.write_answers (ap Err is)))
