-- What `run_acl` answers over devices, which may tell their bytes or not.
use Rattle.std.specs.Prelude.{◌≡◌, ◌≢◌, ℕ, ⊤, List, Option, None, IfSome, Result, Ok, Err}
use Rattle.dir_ldif.specs.declared.faults.StreamFault.TheVariants as stream
use Rattle.dir_names.specs.declared.schema.TypeRow.{TypeRow}
use Rattle.dir_tree.specs.Content.{Content}
use Rattle.dir_tree.specs.Dir.{Dir}
use Rattle.dir_acl.specs.declared.deciding.FaultArgument.{FaultArgument}
use Rattle.dir_acl.specs.declared.fault.ConfigCause.TheVariants.{Memory}
use Rattle.dir_acl.specs.declared.fault.ConfigFault.{ConfigFault}
use Rattle.dir_acl.specs.Config.{config_types}
use Rattle.dir_acl.specs.FaultArgument.{fault_argument}
use Rattle.dir_tools.specs.declared.fault.Cause.TheVariants as cause
use Rattle.dir_tools.specs.declared.fault.Input.TheVariants as input
use Rattle.dir_tools.specs.declared.fault.ToolFault.{ToolFault}
use Rattle.dir_tools.specs.declared.fault.ToolFault.TheVariants as tool
use Rattle.dir_tools.specs.AccessReport.{AccessTerms, Configured, QuestionParts, access_terms, acl_report_of, configured, parts_of, report_on, target_of}
use Rattle.dir_tools.specs.CompleteRecords.{CompleteRecordsLoad, GaveBytes, answers_after}
use Rattle.dir_tools.specs.CopyFaults.{IsBadCopy}
use Rattle.dir_tools.specs.CopyOf.{copy_of, empty_copy}
use Rattle.dir_tools.specs.StoppedReading.{KnownBytes}

-- the texts that the two sources have left, where they tell them
pub record AccessSources : Type 0 where
  pub config : Option (List ℕ)
  pub copy : Option (List ℕ)

abbrev pub access_sources : Option (List ℕ) → Option (List ℕ) → AccessSources
access_sources config copy = record { config = config; copy = copy }

-- ---- a configuration

-- the text, where it is known, is that of this configuration, and these are the types with those that it defines
abbrev pub IsTextOf : List TypeRow → Option (List ℕ) → Configured → Type 0
IsTextOf rows text found = IfSome text (λ text. configured rows text ≡ Ok found)

-- of what is read of a text, this is the first fault; or it could not be read, or memory ran out
abbrev pub IsFaultOf : {A : Type 0} → (List ℕ → Result A ConfigFault) → Option (List ℕ) → ToolFault → Type 0
IsFaultOf reads text (tool.Config fault) = (fault.cause ≢ Memory) × IfSome text (λ text. reads text ≡ Err fault)
IsFaultOf reads text (tool.Read input.Config) = ⊤
IsFaultOf reads text tool.Memory = ⊤
IsFaultOf reads text fault = ⊥

-- the text is no configuration
abbrev pub IsConfigFault : List TypeRow → Option (List ℕ) → ToolFault → Type 0
IsConfigFault rows text fault = IsFaultOf (configured rows) text fault

-- a type that the text defines can't be added
abbrev pub IsTypesFault : List TypeRow → Option (List ℕ) → ToolFault → Type 0
IsTypesFault rows text fault = IsFaultOf (config_types rows) text fault

-- the argument is read under the types that the text defines; the fault of a definition is about none
abbrev pub argument_under : Result (List TypeRow) ConfigFault → List ℕ → ConfigFault → Option FaultArgument
argument_under (Ok now) text fault = fault_argument now text fault
argument_under (Err why) text fault = None

-- the argument that this fault of a configuration is about, where the text is known; any other fault is about none
abbrev pub IsArgumentOf : List TypeRow → Option (List ℕ) → ToolFault → Option FaultArgument → Type 0
IsArgumentOf rows text (tool.Config fault) argument = IfSome text (λ text. argument ≡ argument_under (config_types rows text) text fault)
IsArgumentOf rows text fault argument = argument ≡ None

-- a fault of what is read after the configuration, or of the report's writer, or out of memory
abbrev pub ComesAfterConfig : ToolFault → Type 0
ComesAfterConfig (tool.Config fault) = ⊥
ComesAfterConfig (tool.Read input.Config) = ⊥
ComesAfterConfig fault = ⊤

-- ---- a report

-- a configuration with its types, and what the parts of the question say
pub record Asking : Type 0 where
  pub config : Configured
  pub parts : QuestionParts

-- the text is that of the configuration, and the question has these parts
pub record IsAsked (t : AccessTerms) (config : Option (List ℕ)) (asking : Asking) : Type 0 where
  pub reads : IsTextOf t.rows config asking.config
  pub parts : parts_of (access_terms asking.config.rows t.question) ≡ Ok asking.parts

-- the report on a directory that the copy is the text of
pub record IsStatedReport (t : AccessTerms) (known : AccessSources) (report : List ℕ) : Type 0 where
  pub asking : Asking
  pub asked : IsAsked t known.config asking
  pub directory : Dir
  pub copy : IfSome known.copy (λ text. copy_of asking.config.rows asking.config.configuration.suffix text ≡ Ok directory)
  pub target : Option Content
  pub target_is : target_of t.question.fake directory asking.parts.base ≡ Ok target
  pub report_is : report ≡ report_on t.question.verbose asking.config.configuration directory asking.parts target

-- ---- a fault before the writing

-- the configuration is one, and the question has this fault
pub record IsBadQuestion (t : AccessTerms) (config : Option (List ℕ)) (fault : ToolFault) : Type 0 where
  pub found : Configured
  pub reads : IsTextOf t.rows config found
  pub parts : parts_of (access_terms found.rows t.question) ≡ Err fault

-- the copy is the text of a directory, and the base is no entry of it
pub record HasNoEntry (t : AccessTerms) (known : AccessSources) : Type 0 where
  pub asking : Asking
  pub asked : IsAsked t known.config asking
  pub directory : Dir
  pub copy : IfSome known.copy (λ text. copy_of asking.config.rows asking.config.configuration.suffix text ≡ Ok directory)
  pub target_is : target_of t.question.fake directory asking.parts.base ≡ Err tool.NoEntry

-- what a fault says of the texts that were read. Out of memory and a reader's fault say nothing of them
abbrev pub IsAccessFault : AccessTerms → AccessSources → ToolFault → Type 0
IsAccessFault t known (tool.Config fault) = (fault.cause ≢ Memory) × IfSome known.config (λ text. configured t.rows text ≡ Err fault)
IsAccessFault t known (tool.BadQuestion item) = IsBadQuestion t known.config (tool.BadQuestion item)
IsAccessFault t known (tool.BadCopy line why) = (asking : Asking) × IsAsked t known.config asking × IfSome known.copy (λ text. IsBadCopy asking.config.rows asking.config.configuration.suffix text line why)
IsAccessFault t known tool.NoEntry = HasNoEntry t known
IsAccessFault t known (tool.Read input.Config) = ⊤
IsAccessFault t known (tool.Read input.Copy) = ⊤
IsAccessFault t known tool.Memory = ⊤
IsAccessFault t known fault = ⊥

-- ---- the answer

-- the answer where this is the report, if it came to one
abbrev pub AnswersQuestion : {A : Type 0} → AccessTerms → AccessSources → Result A ToolFault → List ℕ → Type 0
AnswersQuestion t known (Ok x) report = IsStatedReport t known report
AnswersQuestion t known (Err (tool.Write writer)) report = IsStatedReport t known report
AnswersQuestion t known (Err fault) report = IsAccessFault t known fault

-- the answer, and the report, are those of the definition. Where reading stopped, or memory ran out, the answer says nothing of it
abbrev pub IsReportAnswer : {A : Type 0} → Result A ToolFault → List ℕ → Result (List ℕ) ToolFault → Type 0
IsReportAnswer (Ok x) report wanted = wanted ≡ Ok report
IsReportAnswer (Err (tool.Write writer)) report wanted = wanted ≡ Ok report
IsReportAnswer (Err tool.Memory) report wanted = ⊤
IsReportAnswer (Err (tool.Read from)) report wanted = ⊤
IsReportAnswer (Err (tool.BadCopy line (cause.Ended stream.TooManyTurns))) report wanted = ⊤
IsReportAnswer (Err fault) report wanted = wanted ≡ Err fault

-- where both sources tell their texts, the answer is what the definition says
abbrev pub IsWholeReport : {A : Type 0} → AccessTerms → AccessSources → Result A ToolFault → List ℕ → Type 0
IsWholeReport t known result report = IfSome known.config (λ config. IfSome known.copy (λ copy. IsReportAnswer result report (acl_report_of t config copy)))

-- ---- reading that stopped

-- the text is a configuration, the question has no fault, and every complete record among the bytes of the copy was right
pub record RecordsWereRight (t : AccessTerms) (config : Option (List ℕ)) (copy : KnownBytes) : Type 0 where
  pub asking : Asking
  pub asked : IsAsked t config asking
  pub loaded : GaveBytes copy.0 copy.1 (λ bytes. CompleteRecordsLoad asking.config.rows (empty_copy asking.config.configuration.suffix) (answers_after asking.config.rows bytes))

-- for each fault of the copy's reader, what holds of the complete records before it
abbrev pub AccessHeldBefore : AccessTerms → Option (List ℕ) → KnownBytes → ToolFault → Type 0
AccessHeldBefore t config copy (tool.Read input.Copy) = RecordsWereRight t config copy
AccessHeldBefore t config copy (tool.BadCopy line (cause.Ended stream.TooManyTurns)) = RecordsWereRight t config copy
AccessHeldBefore t config copy fault = ⊤
