-- Worked examples of reports and fault texts, proved of the definitions.
use Rattle.std.proofs.Common.{◌≡◌, true, [], ◌∷◌, ◌++◌, codes, refl, arith}
use Rattle.std.specs.Fmt.{decimal}
use Rattle.std.proofs.lemmas.Fmt.{decimal_digit}
use Rattle.dir_names.specs.declared.fault.NameFault.TheVariants.{BadDn}
use Rattle.dir_ldif.specs.declared.faults.RecordFault.TheVariants.{BadBase64, Name}
use Rattle.dir_ldif.specs.declared.faults.StreamFault.TheVariants.{BadVersion}
use Rattle.dir_change.specs.declared.result_code.ResultCode.TheVariants.{NoSuchAttribute}
use Rattle.dir_tools.specs.declared.fault.Cause.TheVariants as cause
use Rattle.dir_tools.specs.declared.fault.Output.TheVariants.{Undo}
use Rattle.dir_tools.specs.declared.fault.ToolFault.TheVariants.{BadChanges, Write}
use Rattle.dir_tools.specs.FaultText.{tool_fault_text}
use Rattle.dir_tools.specs.Report.{cause_text, modify_report_of}

-- the report of a run without records
pub no-records : modify_report_of true [] ≡ codes "accepted 0, refused 0\n"
no-records =
    let zero : decimal 0 ≡ 48 ∷ [] = decimal_digit 0 (omega arith) in
    λ i. codes "accepted " ++ zero i ++ codes ", refused " ++ zero i ++ codes "\n"

-- why a record is refused
pub result-code : cause_text (cause.Code NoSuchAttribute) ≡ codes "16 noSuchAttribute"
result-code = refl

pub record-fault : cause_text (cause.Fault BadBase64) ≡ codes "L2 BadBase64"
record-fault = refl

pub name-fault : cause_text (cause.Fault (Name BadDn)) ≡ codes "L9 N4 BadDn"
name-fault = refl

pub stream-fault : cause_text (cause.Ended BadVersion) ≡ codes "L15 BadVersion"
stream-fault = refl

-- why a run ends without an answer
pub undo-not-written : tool_fault_text (Write Undo) ≡ codes "cannot write undo"
undo-not-written = refl

pub changes-at-fault : tool_fault_text (BadChanges BadVersion) ≡ codes "changes: L15 BadVersion"
changes-at-fault = refl
