-- What the faults of a configuration show, and the lines that are at fault.
use Rattle.std.specs.Prelude.{ℕ, List, codes, Option, None, Some}
use Rattle.dir_ldif.specs.FaultText.{record_fault_text, stream_fault_text}
use Rattle.dir_conf.specs.declared.fault.ConfFault.{ConfFault}
use Rattle.dir_conf.specs.declared.fault.ConfFault.TheVariants as fault

abbrev pub conf_fault_text : ConfFault → List ℕ
conf_fault_text (fault.BadLine line why) = record_fault_text why
conf_fault_text (fault.Ended why) = stream_fault_text why
conf_fault_text (fault.BadInclude line) = codes "K1 BadInclude"
conf_fault_text (fault.BadOrder line) = codes "K2 BadOrder"
conf_fault_text (fault.BadArguments line) = codes "K3 BadArguments"
conf_fault_text fault.NoDatabase = codes "K4 NoDatabase"
conf_fault_text (fault.SecondDatabase line) = codes "K5 SecondDatabase"
conf_fault_text (fault.Subordinate line) = codes "K6 Subordinate"
conf_fault_text fault.TooLong = codes "K7 TooLong"
conf_fault_text (fault.BadName line) = codes "K8 BadName"
conf_fault_text fault.Memory = codes "out of memory"

abbrev pub line_of : ConfFault → Option ℕ
line_of (fault.BadLine line why) = Some line
line_of (fault.BadInclude line) = Some line
line_of (fault.BadOrder line) = Some line
line_of (fault.BadArguments line) = Some line
line_of (fault.BadName line) = Some line
line_of (fault.SecondDatabase line) = Some line
line_of (fault.Subordinate line) = Some line
line_of (fault.Ended why) = None
line_of fault.NoDatabase = None
line_of fault.TooLong = None
line_of fault.Memory = None
