-- How questions are answered over a copy. No public contract needs this file.
use Rattle.std.specs.Prelude.{◌≡◌, ℕ, ⊤, Bool, true, List, Option, IfSome, Ok}
use Rattle.dir_ldif.specs.declared.faults.StreamFault.TheVariants as stream
use Rattle.dir_tree.specs.Dir.{Dir}
use Rattle.dir_tools.specs.declared.fault.Cause.TheVariants as cause
use Rattle.dir_tools.specs.declared.fault.Input.TheVariants as input
use Rattle.dir_tools.specs.declared.fault.Output.TheVariants as output
use Rattle.dir_tools.specs.declared.fault.ToolFault.{ToolFault}
use Rattle.dir_tools.specs.declared.fault.ToolFault.TheVariants as tool
use Rattle.dir_tools.specs.AccessReport.{Configured}
use Rattle.dir_tools.specs.CompleteRecords.{CompleteRecordsLoad, GaveBytes, answers_after}
use Rattle.dir_tools.specs.CopyFaults.{IsBadCopy}
use Rattle.dir_tools.specs.CopyOf.{copy_of, empty_copy}
use Rattle.dir_tools.specs.StoppedReading.{KnownBytes}
use Rattle.dir_questions.specs.declared.fault.QuestionsFault.{QuestionsFault}
use Rattle.dir_questions.specs.declared.fault.QuestionsFault.TheVariants as fault
use Rattle.dir_questions.specs.declared.run.QuestionOptions.{QuestionOptions}
use Rattle.dir_questions.specs.declared.run.Texts.{Texts}
use Rattle.dir_questions.specs.Questions.{QuestionBlock}
use Rattle.dir_questions.specs.Runs.{QuestionTexts, texts_on}

-- ---- the copy

-- what was made has these texts. The answers are made only where they are wanted
pub record HasTexts (wanted : Bool) (made : Texts) (texts : QuestionTexts) : Type 0 where
  pub answers : wanted ≡ true → made.answers.items ≡ texts.answers
  pub report : made.report.items ≡ texts.report
  pub tally : made.tally ≡ texts.tally

-- the copy is the text of a directory, and what was made has the texts on it
pub record MadeOver (found : Configured) (options : QuestionOptions) (copy : Option (List ℕ)) (blocks : List QuestionBlock) (made : Texts) : Type 0 where
  pub directory : Dir
  pub copy_is : IfSome copy (λ text. copy_of found.rows found.configuration.suffix text ≡ Ok directory)
  pub texts : HasTexts options.answers made (texts_on options found.configuration directory blocks)

-- why there is no directory: the copy has this fault first; or its reader failed, or memory ran out
abbrev pub IsCopyFault : Configured → Option (List ℕ) → ToolFault → Type 0
IsCopyFault found copy (tool.BadCopy line why) = IfSome copy (λ text. IsBadCopy found.rows found.configuration.suffix text line why)
IsCopyFault found copy (tool.Read input.Copy) = ⊤
IsCopyFault found copy tool.Memory = ⊤
IsCopyFault found copy why = ⊥

-- every complete record among the bytes of the copy was right
abbrev pub CompleteWereRight : Configured → KnownBytes → Type 0
CompleteWereRight found copy = GaveBytes copy.0 copy.1 (λ bytes. CompleteRecordsLoad found.rows (empty_copy found.configuration.suffix) (answers_after found.rows bytes))

-- for each fault of the copy's reader, what holds of the complete records before it
abbrev pub CopyHeldBefore : Configured → KnownBytes → ToolFault → Type 0
CopyHeldBefore found copy (tool.Read input.Copy) = CompleteWereRight found copy
CopyHeldBefore found copy (tool.BadCopy line (cause.Ended stream.TooManyTurns)) = CompleteWereRight found copy
CopyHeldBefore found copy why = ⊤

-- both
pub record IsFaultOfCopy (found : Configured) (copy : KnownBytes) (why : ToolFault) : Type 0 where
  pub blamed : IsCopyFault found copy.0 why
  pub before : CopyHeldBefore found copy why

-- ---- writing

-- a writer failed, of the answers or of the report
abbrev pub IsWriterFault : QuestionsFault → Type 0
IsWriterFault fault.Write = ⊤
IsWriterFault (fault.Tool (tool.Write output.Report)) = ⊤
IsWriterFault why = ⊥
