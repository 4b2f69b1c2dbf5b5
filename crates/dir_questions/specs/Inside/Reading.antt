-- How the parts of a file of questions are read. No public contract needs this file.
use Rattle.std.specs.Prelude.{List, Option, option_map}
use Rattle.std.specs.Borrow.{Bor}
use Rattle.dir_ldif.specs.LogicalLines.{Line}
use Rattle.dir_ldif.specs.declared.faults.StreamFault.{StreamFault}
use Rattle.dir_ldif.specs.declared.faults.StreamFault.TheVariants as stream
use Rattle.dir_tools.specs.declared.fault.ToolFault.TheVariants.{Memory}
use Rattle.dir_questions.specs.declared.fault.QuestionsFault.{QuestionsFault}
use Rattle.dir_questions.specs.declared.fault.QuestionsFault.TheVariants as fault
use Rattle.dir_questions.specs.declared.reading.Numbered as numbered
use Rattle.dir_questions.specs.Questions.{Numbered}

-- the fault in which a text of questions ends. That memory ran out is no fault of the text
abbrev pub lines_fault : StreamFault → QuestionsFault
lines_fault stream.Memory = fault.Tool Memory
lines_fault why = fault.Stream why

abbrev pub numbered_in : numbered.Numbered → Numbered
numbered_in n = (n.line, n.value.items)

-- the value of a line, if it is there, and the lines that are left
abbrev pub left_in : Option numbered.Numbered × Bor (List Line) → Option Numbered × List Line
left_in p = (option_map numbered_in p.0, p.1.now)
