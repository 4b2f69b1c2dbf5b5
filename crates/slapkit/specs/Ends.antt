-- How a run of the program ends.
use Rattle.std.specs.Prelude.{◌≡◌, ℕ, Bool, [], ◌∷◌, List, Option, Result, Ok, Err, ⊤}
use Rattle.std.specs.List.{All}
use Rattle.dir_acl.specs.declared.deciding.FaultArgument.{FaultArgument}
use Rattle.dir_acl.specs.declared.note.Note.{Note}
use Rattle.dir_conf.specs.declared.site.Tally.{Tally as ConfTally}
use Rattle.dir_questions.specs.declared.report.Tally.{Tally}
use Rattle.dir_tools.specs.declared.run.Summary.{Summary}
use Rattle.dir_files.specs.declared.fault.Fault.{Fault}
use Rattle.dir_files.specs.declared.words.AccessWords.{AccessWords}
use Rattle.dir_files.specs.declared.words.ConfWords.{ConfWords}
use Rattle.dir_files.specs.declared.words.ModifyWords.{ModifyWords}
use Rattle.dir_files.specs.declared.words.QuestionWords.{QuestionWords}
use Rattle.dir_files.specs.AccessRuns.{AllAccessCalls, RefusesSameFile, asked_for, first_repeated_file}
use Rattle.dir_files.specs.ConfRuns.{AllConfCalls, RefusesSameConf, repeated_path}
use Rattle.dir_files.specs.Files.{Call, Disk, opens}
use Rattle.dir_files.specs.Failures.{FailsByDevice}
use Rattle.dir_files.specs.FaultArguments.{TellsArgument}
use Rattle.dir_files.specs.Notes.{AreOnQuestions, AreOnWords, EndsIfUntold, NotesOnAsked, TellsFor, WereGiven, told_text}
use Rattle.dir_files.specs.Paths.{RefusesSamePath, first_repeated}
use Rattle.dir_files.specs.QuestionRuns.{AllQuestionCalls, RefusesRepeated, first_repeated_of}
use Rattle.dir_files.specs.Runs.{AllCalls, Made}
use Rattle.slapkit.specs.Status.{access_status_of, conf_status_of, questions_status_of, status_of}

abbrev pub IsOpening : Call → Type 0
IsOpening (opens path why) = ⊤
IsOpening other = ⊥

-- files are opened to be read, and no other call is made
abbrev pub LooksAt : Option Disk → Option Disk → Type 0
LooksAt before after = Made before after (λ d calls. All IsOpening calls)

-- the fault of an answer, if it is one
abbrev pub fault_in : {A : Type 0} → Result A Fault → List Fault
fault_in (Ok answer) = []
fault_in (Err fault) = fault ∷ []

-- a file system: its calls and its texts, where it tells them, and how often it has failed
pub record Site : Type 0 where
  pub disk : Option Disk
  pub failures : ℕ

abbrev pub site : Option Disk → ℕ → Site
site disk failures = record { disk = disk; failures = failures }

-- what a teller of notes was given: notes, and the arguments that faults are about, where it can say; and how often it could not tell them
pub record Heard : Type 0 where
  pub notes : Option (List Note)
  pub failures : ℕ
  pub arguments : Option (List FaultArgument)

abbrev pub heard : Option (List Note) → ℕ → Option (List FaultArgument) → Heard
heard notes failures arguments = record { notes = notes; failures = failures; arguments = arguments }

-- the notes and the argument that are told for an answer are those of a configuration with this text, and of what is asked
pub record TellsNotes {A : Type 0} (asked : NotesOnAsked) (strict verbose : Bool) (text : Option (List ℕ)) (before after : Heard) (answer : Result A Fault) : Type 0 where
  pub notes : TellsFor asked strict text answer before.notes after.notes
  pub untold : EndsIfUntold answer before.failures after.failures
  pub argument : TellsArgument verbose text answer before.arguments after.arguments

-- what was told before a run and after it, where it can be said, and its exit status
pub record Ending : Type 0 where
  pub told_before : Option (List Fault)
  pub told : Option (List Fault)
  pub status : ℕ

abbrev pub ending : Option (List Fault) → Option (List Fault) → ℕ → Ending
ending before after status = record { told_before = before; told = after; status = status }

-- a tool is run, and the file system comes to this as it has its answer. If that is a fault it is told, and no other is. After it files are opened
-- to be read, and no other call is made; and the exit status is the answer's
pub record Ends {A : Type 0} (is_answer : Site → Site → Result A Fault → Type 0) (status_of : Result A Fault → ℕ) (before after : Site) (end : Ending) : Type 0 where
  pub answer : Result A Fault
  pub answered : Option Disk
  pub failures : ℕ
  pub is : is_answer before (site answered failures) answer
  pub tells : WereGiven end.told_before end.told (fault_in answer)
  pub looks : LooksAt answered after.disk
  pub status : end.status ≡ status_of answer

-- what slapmodify answers for these words, and its calls
pub record AnswersModify (words : ModifyWords) (before after : Site) (answer : Result Summary Fault) : Type 0 where
  pub faults : RefusesSamePath words (first_repeated words) answer
  pub calls : Made before.disk after.disk (λ d. AllCalls (first_repeated words) words d answer)
  pub failed : FailsByDevice answer before.failures after.failures

-- what slapacl answers, its calls, and its notes
pub record AnswersAccess (words : AccessWords) (given given' : Heard) (before after : Site) (answer : Result Unit Fault) : Type 0 where
  pub faults : RefusesSameFile words (first_repeated_file words) answer
  pub calls : Made before.disk after.disk (λ d. AllAccessCalls (first_repeated_file words) words d answer)
  pub failed : FailsByDevice answer before.failures after.failures
  pub notes : TellsNotes (AreOnWords (asked_for words).words) words.strict words.verbose (told_text before.disk after.disk words.config.now) given given' answer

-- what slapacl answers to a file of questions, its calls, and its notes
pub record AnswersQuestions (words : QuestionWords) (given given' : Heard) (before after : Site) (answer : Result Tally Fault) : Type 0 where
  pub faults : RefusesRepeated words (first_repeated_of words) answer
  pub calls : Made before.disk after.disk (λ d. AllQuestionCalls (first_repeated_of words) words d answer)
  pub failed : FailsByDevice answer before.failures after.failures
  pub notes : TellsNotes (AreOnQuestions (told_text before.disk after.disk words.questions.now)) words.strict words.verbose (told_text before.disk after.disk words.config.now) given given' answer

-- what slapconf answers, and its calls
pub record AnswersConf (words : ConfWords) (before after : Site) (answer : Result ConfTally Fault) : Type 0 where
  pub faults : RefusesSameConf words (repeated_path words) answer
  pub calls : Made before.disk after.disk (AllConfCalls (repeated_path words) words answer)
  pub failed : FailsByDevice answer before.failures after.failures

-- how a run of slapmodify ends
abbrev pub EndsModify : ModifyWords → Site → Site → Ending → Type 0
EndsModify words = Ends (AnswersModify words) status_of

-- of slapacl
abbrev pub EndsAccess : AccessWords → Heard → Heard → Site → Site → Ending → Type 0
EndsAccess words given given' = Ends (AnswersAccess words given given') access_status_of

-- of slapacl with a file of questions
abbrev pub EndsQuestions : QuestionWords → Heard → Heard → Site → Site → Ending → Type 0
EndsQuestions words given given' = Ends (AnswersQuestions words given given') questions_status_of

-- of slapconf
abbrev pub EndsConf : ConfWords → Site → Site → Ending → Type 0
EndsConf words = Ends (AnswersConf words) conf_status_of
