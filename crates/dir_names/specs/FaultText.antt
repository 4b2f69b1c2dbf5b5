-- What a fault shows: a `NameFault` its number and its name.
use Rattle.std.specs.Prelude.{ℕ, List, codes}
use Rattle.dir_names.specs.declared.fault.NameFault.{NameFault}
use Rattle.dir_names.specs.declared.fault.NameFault.TheVariants.{BadDescription, ReservedName, BadValue, BadDn, NameLimit, Memory, BadType}

abbrev pub name_fault_text : NameFault → List ℕ
name_fault_text BadDescription = codes "N1 BadDescription"
name_fault_text ReservedName = codes "N2 ReservedName"
name_fault_text BadValue = codes "N3 BadValue"
name_fault_text BadDn = codes "N4 BadDn"
name_fault_text NameLimit = codes "N5 NameLimit"
name_fault_text Memory = codes "N6 Memory"
name_fault_text BadType = codes "N7 BadType"

abbrev pub memory_text : List ℕ
memory_text = codes "out of memory"
