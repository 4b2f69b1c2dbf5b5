-- Why a copy is not read as a directory.
use Rattle.std.specs.Prelude.{◌≡◌, ℕ, ⊤, List, [], Option, Err, IfSome}
use Rattle.std.specs.FinMap as fin
use Rattle.dir_names.specs.declared.schema.TypeRow.{TypeRow}
use Rattle.dir_names.specs.Keys.{DnKeys}
use Rattle.dir_tree.specs.Dir.{Dir}
use Rattle.dir_ldif.specs.Device.{HasFailed}
use Rattle.dir_ldif.specs.declared.faults.StreamFault.TheVariants as stream
use Rattle.dir_tools.specs.CopyOf.{copy_of}
use Rattle.dir_tools.specs.ReadCalls.{FillsReadCalls}
use Rattle.dir_tools.specs.declared.fault.Cause.{Cause}
use Rattle.dir_tools.specs.declared.fault.Cause.TheVariants as cause
use Rattle.dir_tools.specs.declared.fault.Input.TheVariants as input
use Rattle.dir_tools.specs.declared.fault.ToolFault.{ToolFault}
use Rattle.dir_tools.specs.declared.fault.ToolFault.TheVariants as tool

-- a directory without entries
abbrev pub HasNoEntries : Dir → Type 0
HasNoEntries d = d.entries ≡ fin.empty

-- this is the first fault of a copy's text; for too many read calls, the text has a byte or more for each of them
abbrev pub IsBadCopy : List TypeRow → DnKeys → List ℕ → ℕ → Cause → Type 0
IsBadCopy rows suffix text line (cause.Ended stream.TooManyTurns) = (line ≡ 0) × FillsReadCalls text
IsBadCopy rows suffix text line why = copy_of rows suffix text ≡ Err (line, why)

-- why there is no directory: the copy has this fault first, or its reader failed, or memory ran out
abbrev pub IsCopyFaultCause : List TypeRow → Dir → Option (List ℕ) → ℕ → ℕ → ToolFault → Type 0
IsCopyFaultCause rows empty copy failures failures' (tool.BadCopy line why) = HasNoEntries empty → IfSome copy (λ text. IsBadCopy rows empty.suffix text line why)
IsCopyFaultCause rows empty copy failures failures' (tool.Read input.Copy) = HasFailed failures failures'
IsCopyFaultCause rows empty copy failures failures' tool.Memory = ⊤
IsCopyFaultCause rows empty copy failures failures' fault = ⊥

abbrev pub HasRdn : DnKeys → Type 0
HasRdn suffix = suffix ≡ [] → ⊥
