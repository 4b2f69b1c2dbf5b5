-- The views of the parts of a question, and how they and the configuration are read.
use Rattle.std.specs.Prelude.{◌≡◌, ℕ, ⊤, List, map, Option, option_map, Result, Ok, Err}
use Rattle.std.specs.Borrow.{Bor}
use Rattle.dir_names.specs.Results.{Meets}
use Rattle.dir_ldif.specs.Device.{HasFailed}
use Rattle.dir_names.specs.declared.schema.TypeRow.{TypeRow}
use Rattle.dir_acl.specs.declared.config.Config.{Config}
use Rattle.dir_acl.specs.declared.fault.ConfigCause.{ConfigCause}
use Rattle.dir_acl.specs.declared.fault.ConfigCause.TheVariants as cause
use Rattle.dir_acl.specs.declared.fault.ConfigFault.{ConfigFault}
use Rattle.dir_acl.specs.declared.privileges.Level.{Level}
use Rattle.dir_acl.specs.Inside.ReadingConfig.{configuration_of}
use Rattle.dir_acl.specs.Rules.{Configuration}
use Rattle.dir_tree.specs.Content.{Content}
use Rattle.dir_tree.specs.Dir.{Dir}
use Rattle.dir_tools.specs.declared.acl.Question.{Question}
use Rattle.dir_tools.specs.declared.acl.configuration.NotedConfig.{NotedConfig}
use Rattle.dir_tools.specs.declared.acl.parts.Parts.{Parts}
use Rattle.dir_tools.specs.declared.acl.parts.Word as code
use Rattle.dir_tools.specs.declared.fault.Input.TheVariants as input
use Rattle.dir_tools.specs.declared.fault.ToolFault.{ToolFault}
use Rattle.dir_tools.specs.declared.fault.ToolFault.TheVariants as tool
use Rattle.dir_tools.specs.AccessReport.{Configured, QuestionParts, Word, report_on, target_of}

-- ---- views

abbrev pub access_in : Option (Bor (List ℕ) × Level) → Option (List ℕ × Level)
access_in access = option_map (λ a. (a.0.now, a.1)) access

abbrev pub word_in : code.Word → Word
word_in word = record { attr = word.attr.now; asked = word.asked; access = access_in word.access }

abbrev pub parts_in : Parts → QuestionParts
parts_in parts = record { base = parts.base; requester = parts.requester; words = map word_in parts.words.items }

-- ---- how a question is read

-- the question is faulty in this part, or memory ran out
abbrev pub IsPartFault : {A : Type 0} → ToolFault → Result A ToolFault → Type 0
IsPartFault (tool.BadQuestion item) wanted = wanted ≡ Err (tool.BadQuestion item)
IsPartFault tool.Memory wanted = ⊤
IsPartFault fault wanted = ⊥

abbrev pub GivesPart : {A T : Type 0} → (T → A) → Result T ToolFault → Result A ToolFault → Type 0
GivesPart view result wanted = Meets IsPartFault view result wanted

-- ---- how a configuration is read

-- the types of attributes, and the configuration that was read under them
abbrev pub configured_under : List TypeRow → Config → Configured
configured_under rows config = record { rows = rows; configuration = configuration_of config }

abbrev pub configured_by : List TypeRow × Config → Configured
configured_by found = configured_under found.0 found.1

abbrev pub configured_of : NotedConfig → Configured
configured_of found = configured_under found.types found.config

-- what a configuration's fault means
abbrev pub fault_at : ConfigCause → ConfigFault → ToolFault
fault_at cause.Memory fault = tool.Memory
fault_at why fault = tool.Config fault

abbrev pub config_fault : ConfigFault → ToolFault
config_fault fault = fault_at fault.cause fault

-- the source failed, or memory ran out
abbrev pub IsReadFault : ℕ → ℕ → ToolFault → Type 0
IsReadFault failures failures' (tool.Read input.Config) = HasFailed failures failures'
IsReadFault failures failures' tool.Memory = ⊤
IsReadFault failures failures' fault = ⊥

-- ---- a report on a directory

-- the text is the report on this directory, in which the target is found
abbrev pub IsReportOn : Question → Configuration → Dir → QuestionParts → List ℕ → Type 0
IsReportOn question configuration directory parts text =
    (target : Option Content) × (target_of question.fake directory parts.base ≡ Ok target) × (text ≡ report_on question.verbose configuration directory parts target)

-- there is no target, or memory ran out
abbrev pub IsNoReport : Result (Option Content) ToolFault → ToolFault → Type 0
IsNoReport target tool.NoEntry = target ≡ Err tool.NoEntry
IsNoReport target tool.Memory = ⊤
IsNoReport target fault = ⊥
