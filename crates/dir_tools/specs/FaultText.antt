-- What the faults of the tools show.
use Rattle.std.specs.Prelude.{ℕ, List, ◌++◌, codes}
use Rattle.std.specs.Fmt.{decimal}
use Rattle.dir_ldif.specs.FaultText.{stream_fault_text}
use Rattle.dir_acl.specs.FaultText.{config_cause_text}
use Rattle.dir_tools.specs.declared.fault.Input.{Input}
use Rattle.dir_tools.specs.declared.fault.Input.TheVariants as input
use Rattle.dir_tools.specs.declared.fault.Item.{Item}
use Rattle.dir_tools.specs.declared.fault.Item.TheVariants as item
use Rattle.dir_tools.specs.declared.fault.Output.{Output}
use Rattle.dir_tools.specs.declared.fault.Output.TheVariants as output
use Rattle.dir_tools.specs.declared.fault.ToolFault.{ToolFault}
use Rattle.dir_tools.specs.declared.fault.ToolFault.TheVariants as tool
use Rattle.dir_tools.specs.Report.{cause_text}

abbrev pub input_text : Input → List ℕ
input_text input.Copy = codes "copy"
input_text input.Changes = codes "changes"
input_text input.Config = codes "config"

abbrev pub output_text : Output → List ℕ
output_text output.Undo = codes "undo"
output_text output.Out = codes "out"
output_text output.Report = codes "report"

abbrev pub item_text : Item → List ℕ
item_text item.Suffix = codes "suffix"
item_text item.Base = codes "base"
item_text item.Authc = codes "authcDN"
item_text (item.Word n) = codes "word " ++ decimal n

abbrev pub tool_fault_text : ToolFault → List ℕ
tool_fault_text (tool.BadCopy line why) = codes "copy, line " ++ decimal line ++ codes ": " ++ cause_text why
tool_fault_text (tool.Read from) = codes "cannot read " ++ input_text from
tool_fault_text (tool.Write to) = codes "cannot write " ++ output_text to
tool_fault_text tool.Memory = codes "out of memory"
tool_fault_text (tool.BadQuestion part) = codes "bad question: " ++ item_text part
tool_fault_text (tool.BadChanges fault) = codes "changes: " ++ stream_fault_text fault
tool_fault_text (tool.Config fault) = codes "config, line " ++ decimal fault.line ++ codes ": " ++ config_cause_text fault.cause
tool_fault_text tool.NoEntry = codes "no such entry"
tool_fault_text (tool.TooFewGroups groups) = codes "cannot go back, only " ++ decimal groups ++ codes " groups"
