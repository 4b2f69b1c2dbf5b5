-- The text of a fault: of a record or of the stream, its number and its name; or of a device.
use Rattle.std.specs.Prelude.{ℕ, List, ◌++◌, codes}
use Rattle.dir_names.specs.FaultText.{name_fault_text}
use Rattle.dir_ldif.specs.declared.faults.RecordFault.{RecordFault}
use Rattle.dir_ldif.specs.declared.faults.RecordFault.TheVariants as fault
use Rattle.dir_ldif.specs.declared.faults.StreamFault.{StreamFault}
use Rattle.dir_ldif.specs.declared.faults.StreamFault.TheVariants as stream

abbrev pub record_fault_text : RecordFault → List ℕ
record_fault_text fault.BadLine = codes "L1 BadLine"
record_fault_text fault.BadBase64 = codes "L2 BadBase64"
record_fault_text fault.UrlValue = codes "L3 UrlValue"
record_fault_text fault.Control = codes "L4 Control"
record_fault_text fault.BadChangetype = codes "L5 BadChangetype"
record_fault_text fault.BadModify = codes "L6 BadModify"
record_fault_text fault.BadRename = codes "L7 BadRename"
record_fault_text fault.ValueTooLong = codes "L8 ValueTooLong"
record_fault_text (fault.Name e) = codes "L9 " ++ name_fault_text e

abbrev pub stream_fault_text : StreamFault → List ℕ
stream_fault_text stream.LineTooLong = codes "L10 LineTooLong"
stream_fault_text stream.Read = codes "L11 Read"
stream_fault_text stream.Memory = codes "L12 Memory"
stream_fault_text stream.Ended = codes "L13 Ended"
stream_fault_text stream.TooManyTurns = codes "L14 TooManyTurns"
stream_fault_text stream.BadVersion = codes "L15 BadVersion"
stream_fault_text stream.BadMark = codes "L16 BadMark"

abbrev pub device_fault_text : List ℕ
device_fault_text = codes "the device failed"
