-- The report of a run: a line for each refused record, and for an accepted one where it is verbose; last the numbers.
use Rattle.std.specs.Prelude.{ℕ, Bool, cond, List, [], ◌++◌, codes, length, Ok, Err}
use Rattle.std.specs.Fmt.{decimal}
use Rattle.std.specs.List.{flat_map}
use Rattle.dir_ldif.specs.FaultText.{record_fault_text, stream_fault_text}
use Rattle.dir_change.specs.ResultCodeText.{result_code_text}
use Rattle.dir_tools.specs.declared.fault.Cause.{Cause}
use Rattle.dir_tools.specs.declared.fault.Cause.TheVariants as cause
use Rattle.dir_tools.specs.RunOf.{Outcome, causes_in, groups_in}

abbrev pub cause_text : Cause → List ℕ
cause_text (cause.Code code) = result_code_text code
cause_text (cause.Fault fault) = record_fault_text fault
cause_text (cause.Ended fault) = stream_fault_text fault

abbrev pub accepted_line : ℕ → List ℕ
accepted_line line = codes "line " ++ decimal line ++ codes ": accepted\n"

abbrev pub refused_line : ℕ → Cause → List ℕ
refused_line line why = codes "line " ++ decimal line ++ codes ": refused, " ++ cause_text why ++ codes "\n"

abbrev pub outcome_line : Bool → ℕ × Outcome → List ℕ
outcome_line verbose (line, Ok group) = cond verbose (accepted_line line) []
outcome_line verbose (line, Err why) = refused_line line why

abbrev pub numbers_line : ℕ → ℕ → List ℕ
numbers_line accepted refused = codes "accepted " ++ decimal accepted ++ codes ", refused " ++ decimal refused ++ codes "\n"

abbrev pub modify_report_of : Bool → List (ℕ × Outcome) → List ℕ
modify_report_of verbose outcomes = flat_map (outcome_line verbose) outcomes ++ numbers_line (length (groups_in outcomes)) (length (causes_in outcomes))
