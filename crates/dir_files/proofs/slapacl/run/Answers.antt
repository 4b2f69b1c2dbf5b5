use Rattle.std.proofs.Common.{◌≡◌, Option, None, rules, subst, sym, ◌∙◌}
use Rattle.dir_tools.specs.AccessAnswers.{access_sources}
use Rattle.dir_files.specs.AccessRuns.{AsksOrStops, asked_for, first_repeated_file}
use Rattle.dir_files.specs.FaultArguments.{TellsArgument}
use Rattle.dir_files.specs.Files.{Disk}
use Rattle.dir_files.specs.Notes.{AreOnWords, TellsFor, told_text}
use Rattle.dir_files.proofs.AccessCalls.{asks, no_copy, none_repeated}
use Rattle.dir_files.proofs.CallLemmas.{made_after}
use Rattle.dir_files.proofs.FaultArgumentLemmas.{argument_told_at}
use Rattle.dir_files.proofs.NoteLemmas.{told_at}
use Rattle.dir_files.proofs.slapacl.run.Goals as goal

pub returns-in-Err-open-clause-calls : goal.returns-in-Err-open-clause-calls
returns-in-Err-open-clause-calls g c =
    let none : first_repeated_file c.args.words.now ≡ None = none_repeated c.args.words.now (search rules) in
    no_copy c.args.words.now _ none (g.F.FileSystem.disk c.args.files.now) (g.F.FileSystem.disk c.open.new.self) (g.F.FileSystem.disk c.open-2.new.self) c.in-Err-open.why
    c.in-Ok.ensures.told c.in-Err-open.ensures.told c.not_opened-in-Err-open.ensures

pub returns-clause-calls : goal.returns-clause-calls
returns-clause-calls g c =
    let none : first_repeated_file c.args.words.now ≡ None = none_repeated c.args.words.now (search rules) in
    made_after (g.F.FileSystem.disk c.args.files.now) (g.F.FileSystem.disk c.answer-answer.new.files) (g.F.FileSystem.disk c.close-2.new.self) _ (c.close-2.ensures.told ∙ c.close.ensures.told)
    (asks c.args.words.now _ none (g.F.FileSystem.disk c.args.files.now) (g.F.FileSystem.disk c.open.new.self) (g.F.FileSystem.disk c.open-2.new.self) (g.F.FileSystem.disk c.answer-answer.new.files)
    (g.F.Input.Source.left c.in-Ok.opened.file) (g.F.Input.Source.left c.in-Ok-open.opened.file) c.in-Ok.ensures.told c.in-Ok-open.ensures.told c.in-Ok.ensures.text c.in-Ok-open.ensures.text
    c.answer-answer.ensures.calls)

-- what was told for the text that the reader of the configuration had is told for that at its path
pub returns-clause-notes : goal.returns-clause-notes
returns-clause-notes g c =
    let words = c.args.words.now in
    subst (λ (s : Option Disk). TellsFor (AreOnWords (asked_for words).words) words.strict (told_text (g.F.FileSystem.disk c.args.files.now) s words.config.now) c.answer-answer.result (g.T.NoteTeller.given c.args.teller.now) (g.T.NoteTeller.given c.answer-answer.new.teller)) (sym (c.close-2.ensures.told ∙ c.close.ensures.told))
    (told_at (AreOnWords (asked_for words).words) words.strict words.config.now words.data.now c.answer-answer.result
    (λ d. AsksOrStops words (access_sources (g.F.Input.Source.left c.in-Ok.opened.file) (g.F.Input.Source.left c.in-Ok-open.opened.file)) c.answer-answer.result)
    (g.F.FileSystem.disk c.args.files.now) (g.F.FileSystem.disk c.open.new.self) (g.F.FileSystem.disk c.open-2.new.self) (g.F.FileSystem.disk c.answer-answer.new.files)
    (g.F.Input.Source.left c.in-Ok.opened.file) (g.T.NoteTeller.given c.args.teller.now) (g.T.NoteTeller.given c.answer-answer.new.teller)
    c.in-Ok.ensures.told c.in-Ok-open.ensures.told c.answer-answer.ensures.calls c.in-Ok.ensures.text c.answer-answer.ensures.notes)

-- so is the argument
pub returns-clause-argument : goal.returns-clause-argument
returns-clause-argument g c =
    let words = c.args.words.now in
    subst (λ (s : Option Disk). TellsArgument words.verbose (told_text (g.F.FileSystem.disk c.args.files.now) s words.config.now) c.answer-answer.result (g.T.NoteTeller.arguments c.args.teller.now) (g.T.NoteTeller.arguments c.answer-answer.new.teller)) (sym (c.close-2.ensures.told ∙ c.close.ensures.told))
    (argument_told_at words.verbose words.config.now words.data.now c.answer-answer.result
    (λ d. AsksOrStops words (access_sources (g.F.Input.Source.left c.in-Ok.opened.file) (g.F.Input.Source.left c.in-Ok-open.opened.file)) c.answer-answer.result)
    (g.F.FileSystem.disk c.args.files.now) (g.F.FileSystem.disk c.open.new.self) (g.F.FileSystem.disk c.open-2.new.self) (g.F.FileSystem.disk c.answer-answer.new.files)
    (g.F.Input.Source.left c.in-Ok.opened.file) (g.T.NoteTeller.arguments c.args.teller.now) (g.T.NoteTeller.arguments c.answer-answer.new.teller)
    c.in-Ok.ensures.told c.in-Ok-open.ensures.told c.answer-answer.ensures.calls c.in-Ok.ensures.text c.answer-answer.ensures.argument)
