-- The fault in which a run ends where a call is refused, or where the tool itself has a fault.
use Rattle.std.specs.Prelude.{◌≡◌, ℕ, List, Option, None, Some, Result, Ok, Err, ⊤}
use Rattle.dir_questions.specs.declared.fault.QuestionsFault.{QuestionsFault}
use Rattle.dir_questions.specs.declared.fault.QuestionsFault.TheVariants as questions
use Rattle.dir_tools.specs.declared.fault.Output.{Output}
use Rattle.dir_tools.specs.declared.fault.Output.TheVariants as output
use Rattle.dir_tools.specs.declared.fault.ToolFault.{ToolFault}
use Rattle.dir_tools.specs.declared.fault.ToolFault.TheVariants as tool
use Rattle.dir_files.specs.declared.fault.Fault.{Fault}
use Rattle.dir_files.specs.declared.fault.Fault.TheVariants as fault
use Rattle.dir_files.specs.declared.files.Refusal.{Refusal}
use Rattle.dir_files.specs.declared.files.Refusal.TheVariants as refusal

abbrev pub IsCannotOpen : List ℕ → Fault → Type 0
IsCannotOpen path (fault.CannotOpen named) = named.now ≡ path
IsCannotOpen path e = ⊥

abbrev pub IsExists : List ℕ → Fault → Type 0
IsExists path (fault.Exists named) = named.now ≡ path
IsExists path e = ⊥

abbrev pub IsTool : ToolFault → Fault → Type 0
IsTool wanted (fault.Tool told) = told ≡ wanted
IsTool wanted e = ⊥

-- a file is not opened
abbrev pub IsNotOpened : List ℕ → Refusal → Fault → Type 0
IsNotOpened path refusal.Memory e = IsTool tool.Memory e
IsNotOpened path why e = IsCannotOpen path e

-- a file is not created: that it exists already comes only where the file system says so
abbrev pub IsNotCreated : List ℕ → Refusal → Fault → Type 0
IsNotCreated path refusal.Exists e = IsExists path e
IsNotCreated path refusal.Memory e = IsTool tool.Memory e
IsNotCreated path refusal.Other e = IsCannotOpen path e

-- a file is not synced or published: that it exists already comes only where the file system says so
abbrev pub IsNotWritten : List ℕ → Output → Refusal → Fault → Type 0
IsNotWritten path to refusal.Exists e = IsExists path e
IsNotWritten path to refusal.Memory e = IsTool tool.Memory e
IsNotWritten path to refusal.Other e = IsTool (tool.Write to) e

-- the report is not written
abbrev pub IsNotReported : Refusal → Fault → Type 0
IsNotReported refusal.Memory e = IsTool tool.Memory e
IsNotReported why e = IsTool (tool.Write output.Report) e

-- the tool's own fault. It has the report in memory until the files are published, and where it can't write it there memory ran out
abbrev pub IsRunFault : ToolFault → Fault → Type 0
IsRunFault (tool.Write output.Report) e = IsTool tool.Memory e
IsRunFault told e = IsTool told e

-- the fault of a file of questions: the tool's own, or one of the questions or of the writer of their answers
abbrev pub IsQuestionsFault : QuestionsFault → Fault → Type 0
IsQuestionsFault (questions.Tool told) e = IsRunFault told e
IsQuestionsFault told e = e ≡ fault.Questions told

-- too few groups are told with the number of those that are wanted
abbrev pub IsTooFew : Option ℕ → ℕ → Fault → Type 0
IsTooFew (Some asked) there (fault.TooFewGroups wanted groups) = (wanted ≡ asked) × (groups ≡ there)
IsTooFew (Some asked) there e = ⊥
IsTooFew None there e = IsTool (tool.TooFewGroups there) e

-- the fault of a run of changes, of which so many groups may be wanted
abbrev pub IsModifyFault : Option ℕ → ToolFault → Fault → Type 0
IsModifyFault last (tool.TooFewGroups groups) e = IsTooFew last groups e
IsModifyFault last told e = IsRunFault told e

-- the fault names no path
abbrev pub NamesNoPath : Fault → Type 0
NamesNoPath (fault.TooFewGroups wanted groups) = ⊤
NamesNoPath (fault.Tool told) = ⊤
NamesNoPath e = ⊥

-- the run ends in such a fault
abbrev pub FailsSo : {A : Type 0} → (Fault → Type 0) → Result A Fault → Type 0
FailsSo P (Ok answer) = ⊥
FailsSo P (Err e) = P e
