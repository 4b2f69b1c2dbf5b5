use Rattle.std.proofs.Common.{Option, None, subst, sym, ◌∙◌}
use Rattle.std.specs.Prelude.{⊤}
use Rattle.std.specs.Option.{option_copied}
use Rattle.dir_questions.specs.Runs.{QuestionSources, question_sources}
use Rattle.dir_files.specs.FaultArguments.{TellsArgument}
use Rattle.dir_files.specs.Files.{Disk, opens}
use Rattle.dir_files.specs.Notes.{AreOnQuestions, TellsFor, told_text}
use Rattle.dir_files.specs.QuestionRuns.{AnswersAll, first_repeated_of}
use Rattle.dir_files.proofs.CallLemmas.{made_after}
use Rattle.dir_files.proofs.FaultArgumentLemmas.{argument_told_at}
use Rattle.dir_files.proofs.NoteLemmas.{told_at_both}
use Rattle.dir_files.proofs.QuestionCalls.{answers, later, no_copy, no_questions}
use Rattle.dir_files.proofs.questions.run.Goals as goal

pub returns-in-Err-open-clause-calls : goal.returns-in-Err-open-clause-calls
returns-in-Err-open-clause-calls g c =
    no_questions c.args.words.now (first_repeated_of c.args.words.now) _ (sym c.in_default.ensures) (g.F.FileSystem.disk c.args.files.now) (g.F.FileSystem.disk c.open.new.self)
    (g.F.FileSystem.disk c.open-2.new.self) c.in-Err-open.why c.in-Ok.ensures.told c.in-Err-open.ensures.told c.not_opened-in-Err-open.ensures

pub returns-in-Err-open-2-clause-calls : goal.returns-in-Err-open-2-clause-calls
returns-in-Err-open-2-clause-calls g c =
    no_copy c.args.words.now (first_repeated_of c.args.words.now) _ (sym c.in_default.ensures) (g.F.FileSystem.disk c.args.files.now) (g.F.FileSystem.disk c.open.new.self)
    (g.F.FileSystem.disk c.open-2.new.self) (g.F.FileSystem.disk c.open-3.new.self) c.in-Err-open-2.why c.in-Ok.ensures.told c.in-Ok-open.ensures.told c.in-Err-open-2.ensures.told
    c.not_opened-in-Err-open-2.ensures

pub returns-clause-calls : goal.returns-clause-calls
returns-clause-calls g c =
    let words = c.args.words.now in
    let config = g.F.Input.Source.left c.in-Ok.opened.file in
    let questions = g.F.Input.Source.left c.in-Ok-open.opened.file in
    let copy = g.F.Input.Source.left c.in-Ok-open-2.opened.file in
    let mode = c.in-Ok-open.opened.mode in
    let e = g.F.FileSystem.disk c.open-3.new.self in
    let f = g.F.FileSystem.disk c.answer_all-answer.new.files in
    made_after (g.F.FileSystem.disk c.args.files.now) f (g.F.FileSystem.disk c.close-3.new.self) _ (c.close-3.ensures.told ∙ c.close-2.ensures.told ∙ c.close.ensures.told)
    (answers words (first_repeated_of words) c.answer_all-answer.result (sym c.in_default.ensures)
    (g.F.FileSystem.disk c.args.files.now) (g.F.FileSystem.disk c.open.new.self) (g.F.FileSystem.disk c.open-2.new.self) e f config questions copy mode
    c.in-Ok.ensures.told c.in-Ok-open.ensures.told c.in-Ok-open-2.ensures.told c.in-Ok.ensures.text c.in-Ok-open.ensures.text c.in-Ok-open.ensures.mode c.in-Ok-open-2.ensures.text
    c.answer_all-answer.ensures.calls)

-- what was told for the texts that the readers of the configuration and of the questions had is told for those at their paths
pub returns-clause-notes : goal.returns-clause-notes
returns-clause-notes g c =
    let words = c.args.words.now in
    let known : QuestionSources = question_sources (g.F.Input.Source.left c.in-Ok.opened.file) (g.F.Input.Source.left c.in-Ok-open.opened.file) (g.F.Input.Source.left c.in-Ok-open-2.opened.file) in
    let e = g.F.FileSystem.disk c.open-3.new.self in
    let f = g.F.FileSystem.disk c.answer_all-answer.new.files in
    subst (λ (s : Option Disk). TellsFor (AreOnQuestions (told_text (g.F.FileSystem.disk c.args.files.now) s words.questions.now)) words.strict (told_text (g.F.FileSystem.disk c.args.files.now) s words.config.now) c.answer_all-answer.result (g.T.NoteTeller.given c.args.teller.now) (g.T.NoteTeller.given c.answer_all-answer.new.teller))
    (sym (c.close-3.ensures.told ∙ c.close-2.ensures.told ∙ c.close.ensures.told))
    (told_at_both words.strict words.config.now words.questions.now c.answer_all-answer.result (λ d calls. ⊤)
    (g.F.FileSystem.disk c.args.files.now) (g.F.FileSystem.disk c.open.new.self) (g.F.FileSystem.disk c.open-2.new.self) f
    (g.F.Input.Source.left c.in-Ok.opened.file) (g.F.Input.Source.left c.in-Ok-open.opened.file) (g.T.NoteTeller.given c.args.teller.now) (g.T.NoteTeller.given c.answer_all-answer.new.teller) c.in-Ok.ensures.told c.in-Ok-open.ensures.told
    (later (λ d. AnswersAll (option_copied words.answers) c.in-Ok-open.opened.mode words known c.answer_all-answer.result) (opens words.data.now None)
    (g.F.FileSystem.disk c.open-2.new.self) e f c.in-Ok-open-2.ensures.told c.answer_all-answer.ensures.calls)
    c.in-Ok.ensures.text c.in-Ok-open.ensures.text c.answer_all-answer.ensures.notes)

-- so is the argument
pub returns-clause-argument : goal.returns-clause-argument
returns-clause-argument g c =
    let words = c.args.words.now in
    let known : QuestionSources = question_sources (g.F.Input.Source.left c.in-Ok.opened.file) (g.F.Input.Source.left c.in-Ok-open.opened.file) (g.F.Input.Source.left c.in-Ok-open-2.opened.file) in
    let e = g.F.FileSystem.disk c.open-3.new.self in
    let f = g.F.FileSystem.disk c.answer_all-answer.new.files in
    subst (λ (s : Option Disk). TellsArgument words.verbose (told_text (g.F.FileSystem.disk c.args.files.now) s words.config.now) c.answer_all-answer.result (g.T.NoteTeller.arguments c.args.teller.now) (g.T.NoteTeller.arguments c.answer_all-answer.new.teller))
    (sym (c.close-3.ensures.told ∙ c.close-2.ensures.told ∙ c.close.ensures.told))
    (argument_told_at words.verbose words.config.now words.questions.now c.answer_all-answer.result (λ d calls. ⊤)
    (g.F.FileSystem.disk c.args.files.now) (g.F.FileSystem.disk c.open.new.self) (g.F.FileSystem.disk c.open-2.new.self) f
    (g.F.Input.Source.left c.in-Ok.opened.file) (g.T.NoteTeller.arguments c.args.teller.now) (g.T.NoteTeller.arguments c.answer_all-answer.new.teller) c.in-Ok.ensures.told c.in-Ok-open.ensures.told
    (later (λ d. AnswersAll (option_copied words.answers) c.in-Ok-open.opened.mode words known c.answer_all-answer.result) (opens words.data.now None)
    (g.F.FileSystem.disk c.open-2.new.self) e f c.in-Ok-open-2.ensures.told c.answer_all-answer.ensures.calls)
    c.in-Ok.ensures.text c.answer_all-answer.ensures.argument)
