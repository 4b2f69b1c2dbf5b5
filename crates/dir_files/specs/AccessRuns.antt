-- The calls of slapacl on its file system, and what it asks (slapacl(8)).
use Rattle.std.specs.Prelude.{◌≡◌, ◌⊎◌, ℕ, Bool, true, List, [], map, cond, Option, None, Some, Result, Ok, Err, ⊤}
use Rattle.std.specs.Option.{option_copied}
use Rattle.dir_names.specs.Orders.{bytes_eq}
use Rattle.dir_names.specs.Table.Builtin.{builtin_rows}
use Rattle.dir_tools.specs.declared.acl.Question.{Question}
use Rattle.dir_tools.specs.declared.fault.ToolFault.{ToolFault}
use Rattle.dir_tools.specs.AccessAnswers.{AccessSources, AnswersQuestion, IsWholeReport, access_sources}
use Rattle.dir_tools.specs.AccessReport.{AccessTerms, access_terms}
use Rattle.dir_tools.specs.Writing.{TakenBytes, WroteReport}
use Rattle.dir_files.specs.declared.words.AccessWords.{AccessWords}
use Rattle.dir_files.specs.declared.fault.Fault.{Fault}
use Rattle.dir_files.specs.declared.fault.Fault.TheVariants.{CannotOpen, HasNotes, NotesUntold, SamePath, Tool}
use Rattle.dir_files.specs.Faults.{FailsSo, IsRunFault}
use Rattle.dir_files.specs.Files.{Disk}
use Rattle.dir_files.specs.Runs.{Calls, EndsWithoutOutputs, Opens}

-- ---- what is asked

abbrev pub asked_for : AccessWords → Question
asked_for words = record {
  base = words.base.now;
  authc = option_copied words.authc;
  words = map (λ word. word.now) words.words.items;
  fake = words.fake;
  verbose = words.verbose;
}

-- with the built-in types, to which those that the configuration defines are added
abbrev pub access_terms_of : AccessWords → AccessTerms
access_terms_of words = access_terms builtin_rows (asked_for words)

-- ---- the question over the files

-- what the tool answers over these texts, and what it writes into the report
pub record AsksOver {A : Type 0} (t : AccessTerms) (known : AccessSources) (answer : Result A ToolFault) (tape : TakenBytes) : Type 0 where
  pub report : List ℕ
  pub wrote : WroteReport answer tape report
  pub answers : AnswersQuestion t known answer report
  pub whole : IsWholeReport t known answer report

-- the tool answers over these texts, and its report is written
abbrev pub Asks : {A : Type 0} → AccessTerms → AccessSources → Result A Fault → Calls
Asks {A} t known result calls = (answer : Result A ToolFault) × (report : List ℕ) × AsksOver t known answer (Some [], Some report) × EndsWithoutOutputs IsRunFault report answer result calls

-- the notes on the configuration end the run: they can't be told, or only an answer without notes is wanted
abbrev pub IsEndOfNotes : Bool → Fault → Type 0
IsEndOfNotes strict NotesUntold = ⊤
IsEndOfNotes strict HasNotes = strict ≡ true
IsEndOfNotes strict fault = ⊥

-- they end it without another call; or the tool answers
abbrev pub AsksOrStops : {A : Type 0} → AccessWords → AccessSources → Result A Fault → Calls
AsksOrStops words known result calls = ((calls ≡ []) × FailsSo (IsEndOfNotes words.strict) result) ⊎ Asks (access_terms_of words) known result calls

-- the texts of the configuration and of the copy
abbrev pub access_sources_of : AccessWords → Disk → AccessSources
access_sources_of words d = access_sources (d.text_at words.config.now) (d.text_at words.data.now)

-- the configuration is opened first, then the copy
abbrev pub AccessCalls : {A : Type 0} → AccessWords → Disk → Result A Fault → Calls
AccessCalls words d result = Opens words.config.now result (Opens words.data.now result (AsksOrStops words (access_sources_of words d) result))

-- ---- the paths

-- the path of the copy, if it is that of the configuration
abbrev pub first_repeated_file : AccessWords → Option (List ℕ)
first_repeated_file words = cond (bytes_eq words.data.now words.config.now) (Some words.data.now) None

-- where one path is given twice there is no call
abbrev pub AllAccessCalls : {A : Type 0} → Option (List ℕ) → AccessWords → Disk → Result A Fault → Calls
AllAccessCalls (Some path) words d result calls = calls ≡ []
AllAccessCalls None words d result calls = AccessCalls words d result calls

-- the fault names one of the two paths, is that of the notes, or is the tool's own
abbrev pub NamesItsFile : AccessWords → Fault → Type 0
NamesItsFile words (CannotOpen path) = (path.now ≡ words.config.now) ⊎ (path.now ≡ words.data.now)
NamesItsFile words (Tool fault) = ⊤
NamesItsFile words other = IsEndOfNotes words.strict other

abbrev pub IsSameFile : {A : Type 0} → List ℕ → Result A Fault → Type 0
IsSameFile path (Err (SamePath named)) = named.now ≡ path
IsSameFile path other = ⊥

-- a path that is given twice is refused; where none is, the question is answered or has one of the other faults
abbrev pub RefusesSameFile : {A : Type 0} → AccessWords → Option (List ℕ) → Result A Fault → Type 0
RefusesSameFile words (Some path) result = IsSameFile path result
RefusesSameFile words None (Ok answer) = ⊤
RefusesSameFile words None (Err fault) = NamesItsFile words fault
