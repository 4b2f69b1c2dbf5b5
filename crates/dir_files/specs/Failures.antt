-- How often a file system has failed, and the faults that tell of it: they come only where it has.
use Rattle.std.specs.Prelude.{◌≡◌, ◌⊎◌, ◌≤◌, ℕ, ⊤, Result, IfErr, MatchResult}
use Rattle.dir_ldif.specs.Device.{HasFailed}
use Rattle.dir_questions.specs.declared.fault.QuestionsFault.TheVariants as questions
use Rattle.dir_tools.specs.declared.fault.ToolFault.{ToolFault}
use Rattle.dir_tools.specs.declared.fault.ToolFault.TheVariants as tool
use Rattle.dir_files.specs.declared.fault.Fault.{Fault}
use Rattle.dir_files.specs.declared.fault.Fault.TheVariants as fault
use Rattle.dir_files.specs.declared.files.Refusal.{Refusal}

-- ---- the count

-- a call that is refused counts, and no other
pub record CountsCall {A : Type 0} (result : Result A Refusal) (old new : ℕ) : Type 0 where
  pub grows : old ≤ new
  pub counts : MatchResult result (λ _. new ≡ old) (λ _. HasFailed old new)

-- a device is handed back that has failed so often: the file system has failed where the device has, and nowhere else
pub record CountsDevice (failures old new : ℕ) : Type 0 where
  pub grows : old ≤ new
  pub counts : HasFailed 0 failures → HasFailed old new
  pub alone : failures ≡ 0 → new ≡ old

-- ---- the faults

abbrev pub IsOfDevice : ToolFault → Type 0
IsOfDevice (tool.Read from) = ⊤
IsOfDevice (tool.Write to) = ⊤
IsOfDevice other = ⊥

-- a fault tells that something can't be opened, read or written, or that a file is there already
abbrev pub TellsOfDevice : Fault → Type 0
TellsOfDevice (fault.CannotOpen path) = ⊤
TellsOfDevice (fault.Exists path) = ⊤
TellsOfDevice fault.FlatUnwritten = ⊤
TellsOfDevice (fault.Questions questions.Read) = ⊤
TellsOfDevice (fault.Questions questions.Write) = ⊤
TellsOfDevice (fault.Tool told) = IsOfDevice told
TellsOfDevice other = ⊥

-- such a fault comes only where this holds
abbrev pub OnlyWhere : {A : Type 0} → Type 0 → Result A Fault → Type 0
OnlyWhere P result = IfErr result (λ e. TellsOfDevice e → P)

-- where a run ends in such a fault the file system has failed, or what is said of other devices holds
pub record FailsByDeviceOr (other : Type 0) {A : Type 0} (result : Result A Fault) (old new : ℕ) : Type 0 where
  pub grows : old ≤ new
  pub failed : OnlyWhere (HasFailed old new ⊎ other) result

-- where a run ends in such a fault the file system has failed
pub record FailsByDevice {A : Type 0} (result : Result A Fault) (old new : ℕ) : Type 0 where
  pub grows : old ≤ new
  pub failed : OnlyWhere (HasFailed old new) result
