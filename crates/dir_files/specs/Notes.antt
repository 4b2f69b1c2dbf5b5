-- The notes that are told before slapacl answers.
use Rattle.std.specs.Prelude.{◌≡◌, ◌≢◌, ◌⊎◌, ℕ, ⊤, Bool, true, List, [], ◌++◌, Option, None, Some, IfSome, Result, Ok, Err}
use Rattle.dir_names.specs.declared.schema.TypeRow.{TypeRow}
use Rattle.dir_names.specs.Table.Builtin.{builtin_rows}
use Rattle.dir_acl.specs.declared.note.Note.{Note}
use Rattle.dir_acl.specs.Config.{config_types}
use Rattle.dir_acl.specs.Notes.{notes_of}
use Rattle.dir_ldif.specs.Device.{HasFailed}
use Rattle.dir_tools.specs.declared.fault.Input.TheVariants as input
use Rattle.dir_tools.specs.declared.fault.ToolFault.{ToolFault}
use Rattle.dir_tools.specs.declared.fault.ToolFault.TheVariants as tool
use Rattle.dir_tools.specs.AccessAnswers.{ComesAfterConfig}
use Rattle.dir_tools.specs.WordNotes.{notes_on_words}
use Rattle.dir_questions.specs.declared.fault.QuestionsFault.{QuestionsFault}
use Rattle.dir_questions.specs.declared.fault.QuestionsFault.TheVariants as questions
use Rattle.dir_questions.specs.Notes.{notes_on_questions}
use Rattle.dir_questions.specs.Questions.{QuestionBlock, question_blocks}
use Rattle.dir_files.specs.declared.fault.Fault.{Fault}
use Rattle.dir_files.specs.declared.fault.Fault.TheVariants.{Exists, HasNotes, NotesUntold, Questions, Tool}
use Rattle.dir_files.specs.Files.{Disk}

-- a teller was given these notes, or handed these arguments, and no others; where it says afterwards what it was given, it has said it before
abbrev pub WereGiven : {A : Type 0} → Option (List A) → Option (List A) → List A → Type 0
WereGiven before None notes = ⊤
WereGiven None (Some after) notes = ⊥
WereGiven (Some before) (Some after) notes = after ≡ before ++ notes

-- what the notes on that which is asked are, under these types
abbrev pub NotesOnAsked : Type 1
NotesOnAsked = List TypeRow → List Note → Type 0

-- those on the words of one question
abbrev pub AreOnWords : List (List ℕ) → NotesOnAsked
AreOnWords words rows notes = notes ≡ notes_on_words rows words

-- those on the words of a file of questions, where its text is known
abbrev pub AreOnQuestions : Option (List ℕ) → NotesOnAsked
AreOnQuestions text rows notes = IfSome text (λ text. (blocks : List QuestionBlock) × (question_blocks rows text ≡ Ok blocks) × (notes ≡ notes_on_questions rows blocks))

-- they are those on the configuration with this text, and then those on what is asked, with the built-in types and those that the configuration defines
pub record AreNotesOf (asked : NotesOnAsked) (text : Option (List ℕ)) (notes : List Note) : Type 0 where
  pub rows : List TypeRow
  pub typed : IfSome text (λ text. config_types builtin_rows text ≡ Ok rows)
  pub found : List Note
  pub read : IfSome text (λ text. found ≡ notes_of rows text)
  pub on_asked : List Note
  pub are : asked rows on_asked
  pub all : notes ≡ found ++ on_asked

-- where a strict answer is wanted, there are none
abbrev pub MayBeAnswered : Bool → List Note → Type 0
MayBeAnswered strict notes = strict ≡ true → notes ≡ []

-- the notes that are told before the tool has this fault: none before the configuration was read, and then all of it
abbrev pub AreToldBefore : NotesOnAsked → Bool → Option (List ℕ) → ToolFault → List Note → Type 0
AreToldBefore asked strict text (tool.Config fault) notes = notes ≡ []
AreToldBefore asked strict text (tool.Read input.Config) notes = notes ≡ []
AreToldBefore asked strict text tool.Memory notes = (notes ≡ []) ⊎ (AreNotesOf asked text notes × MayBeAnswered strict notes)
AreToldBefore asked strict text fault notes = AreNotesOf asked text notes × MayBeAnswered strict notes

-- a fault of the tool after the configuration was read
abbrev pub IsAfterConfig : Fault → Type 0
IsAfterConfig (Tool fault) = ComesAfterConfig fault
IsAfterConfig fault = ⊥

-- such a fault, or that the answers to a file of questions can't be written
abbrev pub IsAfterNotes : Fault → Type 0
IsAfterNotes (Questions questions.Write) = ⊤
IsAfterNotes fault = IsAfterConfig fault

-- the notes that are told before a file of questions has this fault: none before the questions were read, and then all
abbrev pub AreToldOfQuestions : NotesOnAsked → Bool → Option (List ℕ) → QuestionsFault → List Note → Type 0
AreToldOfQuestions asked strict text questions.Write notes = AreNotesOf asked text notes × MayBeAnswered strict notes
AreToldOfQuestions asked strict text fault notes = notes ≡ []

-- the notes that are told before this answer. Where a strict one is wanted and there are notes, they are told, and nothing is answered. That a file exists is told before the
-- configuration is read, or where one has come since then
abbrev pub AreToldFor : {A : Type 0} → NotesOnAsked → Bool → Option (List ℕ) → Result A Fault → List Note → Type 0
AreToldFor asked strict text (Ok answer) notes = AreNotesOf asked text notes × MayBeAnswered strict notes
AreToldFor asked strict text (Err HasNotes) notes = AreNotesOf asked text notes × (notes ≢ []) × (strict ≡ true)
AreToldFor asked strict text (Err NotesUntold) notes = AreNotesOf asked text notes × (notes ≢ [])
AreToldFor asked strict text (Err (Questions fault)) notes = AreToldOfQuestions asked strict text fault notes
AreToldFor asked strict text (Err (Tool fault)) notes = AreToldBefore asked strict text fault notes
AreToldFor asked strict text (Err (Exists path)) notes = (notes ≡ []) ⊎ (AreNotesOf asked text notes × MayBeAnswered strict notes)
AreToldFor asked strict text (Err fault) notes = notes ≡ []

-- a teller was given the notes that are to be told for this answer, and no others
abbrev pub TellsFor : {A : Type 0} → NotesOnAsked → Bool → Option (List ℕ) → Result A Fault → Option (List Note) → Option (List Note) → Type 0
TellsFor asked strict text result before after = (notes : List Note) × WereGiven before after notes × AreToldFor asked strict text result notes

-- the run ends in `NotesUntold` exactly where the teller failed
abbrev pub EndsIfUntold : {A : Type 0} → Result A Fault → ℕ → ℕ → Type 0
EndsIfUntold (Err NotesUntold) failures failures' = HasFailed failures failures'
EndsIfUntold result failures failures' = failures' ≡ failures

-- the text at a path, where the file system tells its calls until the end
abbrev pub told_text : Option Disk → Option Disk → List ℕ → Option (List ℕ)
told_text None after path = None
told_text (Some before) None path = None
told_text (Some before) (Some after) path = before.text_at path
