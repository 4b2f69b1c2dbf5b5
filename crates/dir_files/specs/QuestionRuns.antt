-- The calls of slapacl with a file of questions on its file system, and what it answers.
use Rattle.std.specs.Prelude.{◌≡◌, ◌⊎◌, ℕ, ⊤, Bool, List, [], ◌∷◌, Option, None, Some, is_some, Result, Ok, Err}
use Rattle.std.specs.Option.{option_copied}
use Rattle.dir_names.specs.Table.Builtin.{builtin_rows}
use Rattle.dir_questions.specs.declared.fault.QuestionsFault.{QuestionsFault}
use Rattle.dir_questions.specs.declared.fault.QuestionsFault.TheVariants as questions
use Rattle.dir_questions.specs.declared.report.Tally.{Tally}
use Rattle.dir_questions.specs.declared.run.QuestionOptions.{QuestionOptions}
use Rattle.dir_questions.specs.Runs.{AnswersQuestions, IsWholeAnswer, QuestionSources, QuestionTexts, WroteAnswers, question_sources}
use Rattle.dir_tools.specs.Writing.{TakenBytes, TookNothing}
use Rattle.dir_files.specs.declared.words.QuestionWords.{QuestionWords}
use Rattle.dir_files.specs.declared.fault.Fault.{Fault}
use Rattle.dir_files.specs.declared.fault.Fault.TheVariants.{CannotOpen, Exists, Questions, SamePath, Tool}
use Rattle.dir_files.specs.AccessRuns.{IsEndOfNotes}
use Rattle.dir_files.specs.Faults.{FailsSo, IsNotCreated, IsNotReported, IsQuestionsFault}
use Rattle.dir_files.specs.Files.{Disk, creates, discards, reports}
use Rattle.dir_files.specs.OneOutput.{Finishes}
use Rattle.dir_files.specs.Paths.{IsAmong, first_seen_before, given}
use Rattle.dir_files.specs.Runs.{Calls, Ends, Opens, Tries}

-- ---- what is asked

abbrev pub options_of : QuestionWords → QuestionOptions
options_of words = record { answers = is_some words.answers; verbose = words.verbose }

-- ---- the questions over the files

-- what the tool answers over these texts, with the built-in types and those that the configuration defines, and what it writes
pub record AnswersOver (options : QuestionOptions) (known : QuestionSources) (answer : Result Tally QuestionsFault) (answers report : TakenBytes) : Type 0 where
  pub texts : QuestionTexts
  pub wrote : WroteAnswers options.answers answer texts answers report
  pub stated : AnswersQuestions builtin_rows options known answer texts
  pub whole : IsWholeAnswer builtin_rows options known answer texts

-- the tool's answer, as the program tells it
abbrev pub IsToldAs : Result Tally QuestionsFault → Result Tally Fault → Type 0
IsToldAs (Ok tally) told = told ≡ Ok tally
IsToldAs (Err why) told = FailsSo (IsQuestionsFault why) told

-- the notes end the run, and nothing is written; or the tool answers
abbrev pub AnswersOrStops : QuestionWords → QuestionSources → Result Tally Fault → TakenBytes → TakenBytes → Type 0
AnswersOrStops words known told answers report = (FailsSo (IsEndOfNotes words.strict) told × TookNothing answers × TookNothing report)
    ⊎ ((answer : Result Tally QuestionsFault) × AnswersOver (options_of words) known answer answers report × IsToldAs answer told)

-- ---- the end

-- the file of answers gets its name, and the report is written; after a fault the draft is removed
abbrev pub EndsWithAnswers : List ℕ → Option (List ℕ) → List ℕ → Result Tally Fault → Result Tally Fault → Calls
EndsWithAnswers path answers report (Ok tally) result calls = Finishes path answers report (Questions questions.Write) tally result calls
EndsWithAnswers path answers report (Err e) result calls = (calls ≡ discards path ∷ []) × (result ≡ Err e)

-- there is no file of answers
abbrev pub EndsWithReport : List ℕ → Result Tally Fault → Result Tally Fault → Calls
EndsWithReport report (Ok tally) result calls = Tries (reports report) IsNotReported [] result (Ends tally result) calls
EndsWithReport report (Err e) result calls = (calls ≡ []) × (result ≡ Err e)

-- ---- the whole run

abbrev pub AnswersIntoDraft : List ℕ → QuestionWords → QuestionSources → Result Tally Fault → Calls
AnswersIntoDraft path words known result calls = (told : Result Tally Fault) × (answers : Option (List ℕ)) × (report : List ℕ)
    × AnswersOrStops words known told (Some [], answers) (Some [], Some report) × EndsWithAnswers path answers report told result calls

-- the draft of the file of answers is created, with the mode of the questions, and the questions are answered into it
abbrev pub WritesAnswers : List ℕ → ℕ → QuestionWords → QuestionSources → Result Tally Fault → Calls
WritesAnswers path mode words known result = Tries (creates path mode) (IsNotCreated path) [] result (AnswersIntoDraft path words known result)

-- the questions are answered, and nothing but the report is written
abbrev pub ReportsAnswers : QuestionWords → QuestionSources → Result Tally Fault → Calls
ReportsAnswers words known result calls = (told : Result Tally Fault) × (report : List ℕ)
    × AnswersOrStops words known told (None, None) (Some [], Some report) × EndsWithReport report told result calls

abbrev pub AnswersAll : Option (List ℕ) → ℕ → QuestionWords → QuestionSources → Result Tally Fault → Calls
AnswersAll (Some path) mode words known result calls = WritesAnswers path mode words known result calls
AnswersAll None mode words known result calls = ReportsAnswers words known result calls

-- the texts of the configuration, of the questions and of the copy
abbrev pub question_sources_of : QuestionWords → Disk → QuestionSources
question_sources_of words d = question_sources (d.text_at words.config.now) (d.text_at words.questions.now) (d.text_at words.data.now)

-- the configuration is opened first, then the questions, then the copy
abbrev pub QuestionCalls : QuestionWords → Disk → Result Tally Fault → Calls
QuestionCalls words d result = Opens words.config.now result (Opens words.questions.now result (Opens words.data.now result
    (AnswersAll (option_copied words.answers) (d.mode_at words.questions.now) words (question_sources_of words d) result)))

-- ---- the paths

-- the paths that are given: the configuration, the questions, the copy, the answers
abbrev pub paths_in : QuestionWords → List (List ℕ)
paths_in words = words.config.now ∷ words.questions.now ∷ words.data.now ∷ given (option_copied words.answers)

-- the first path that is the same text as one before it
abbrev pub first_repeated_of : QuestionWords → Option (List ℕ)
first_repeated_of words = first_seen_before [] (paths_in words)

-- where a path is given twice there is no call
abbrev pub AllQuestionCalls : Option (List ℕ) → QuestionWords → Disk → Result Tally Fault → Calls
AllQuestionCalls (Some path) words d result calls = calls ≡ []
AllQuestionCalls None words d result calls = QuestionCalls words d result calls

-- a fault after the files were opened that names none: that of the notes, of the questions, or the tool's own
abbrev pub EndsAnswering : Bool → Fault → Type 0
EndsAnswering strict (Questions fault) = ⊤
EndsAnswering strict (Tool fault) = ⊤
EndsAnswering strict other = IsEndOfNotes strict other

-- a fault after the files were opened: it may name the file of answers, which can't be created or exists already
abbrev pub NamesItsAnswers : QuestionWords → Fault → Type 0
NamesItsAnswers words (CannotOpen path) = IsAmong path.now (given (option_copied words.answers))
NamesItsAnswers words (Exists path) = IsAmong path.now (given (option_copied words.answers))
NamesItsAnswers words other = EndsAnswering words.strict other

-- the fault of a run whose paths differ: `CannotOpen` names a path that was given, `Exists` the file of answers
abbrev pub NamesItsQuestionFile : QuestionWords → Fault → Type 0
NamesItsQuestionFile words (CannotOpen path) = IsAmong path.now (paths_in words)
NamesItsQuestionFile words other = NamesItsAnswers words other

abbrev pub IsRepeated : List ℕ → Result Tally Fault → Type 0
IsRepeated path (Err (SamePath named)) = named.now ≡ path
IsRepeated path other = ⊥

-- the first path that is given twice is refused; where none is, the questions are answered or the run has one of the other faults
abbrev pub RefusesRepeated : QuestionWords → Option (List ℕ) → Result Tally Fault → Type 0
RefusesRepeated words (Some path) result = IsRepeated path result
RefusesRepeated words None (Ok tally) = ⊤
RefusesRepeated words None (Err fault) = NamesItsQuestionFile words fault
