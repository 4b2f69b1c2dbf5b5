-- What only private functions need.
use Rattle.dir_ldif.specs.declared.faults.StreamFault.{StreamFault}
use Rattle.dir_ldif.specs.declared.faults.StreamFault.TheVariants.{Memory}
use Rattle.dir_conf.specs.declared.fault.ConfFault.{ConfFault}
use Rattle.dir_conf.specs.declared.fault.ConfFault.TheVariants as fault

-- the fault in which a text ends. That memory ran out says nothing of the text
abbrev pub ended : StreamFault → ConfFault
ended Memory = fault.Memory
ended why = fault.Ended why
