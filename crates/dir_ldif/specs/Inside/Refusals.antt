-- What a call that reads a block refuses it for: a fault of the record, or that memory ran out.
use Rattle.std.specs.Prelude.{◌≡◌, Result, Err}
use Rattle.dir_names.specs.declared.fault.NameFault.{NameFault}
use Rattle.dir_names.specs.declared.fault.NameFault.TheVariants.{BadDescription, ReservedName, BadValue, BadDn, NameLimit, BadType}
use Rattle.dir_names.specs.declared.fault.NameFault.TheVariants.{Memory as NoMemory}
use Rattle.dir_ldif.specs.declared.faults.RecordFault.{RecordFault}
use Rattle.dir_ldif.specs.declared.faults.RecordFault.TheVariants.{Name}
use Rattle.dir_ldif.specs.declared.faults.Refusal.{Refusal}
use Rattle.dir_ldif.specs.declared.faults.Refusal.TheVariants.{Fault, Memory}

-- a fault is the one that the definition has; nothing is said where memory ran out
abbrev pub Refuses : {A : Type 0} → Refusal → Result A RecordFault → Type 0
Refuses (Fault fault) wanted = wanted ≡ Err fault
Refuses Memory wanted = Unit {0}

-- the refusal for a fault of a name. That memory ran out is no fault of the record
abbrev pub refusal_of : NameFault → Refusal
refusal_of BadDescription = Fault (Name BadDescription)
refusal_of ReservedName = Fault (Name ReservedName)
refusal_of BadValue = Fault (Name BadValue)
refusal_of BadDn = Fault (Name BadDn)
refusal_of NameLimit = Fault (Name NameLimit)
refusal_of NoMemory = Memory
refusal_of BadType = Fault (Name BadType)
