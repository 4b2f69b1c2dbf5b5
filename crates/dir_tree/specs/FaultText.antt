-- What an `EntryFault` shows: its number and its name.
use Rattle.std.specs.Prelude.{ℕ, List, codes}
use Rattle.dir_tree.specs.declared.fault.EntryFault.{EntryFault}
use Rattle.dir_tree.specs.declared.fault.EntryFault.TheVariants.{BadValue, Twice, NotNamed, Single, Memory}

abbrev pub entry_fault_text : EntryFault → List ℕ
entry_fault_text BadValue = codes "E1 BadValue"
entry_fault_text Twice = codes "E2 Twice"
entry_fault_text NotNamed = codes "E3 NotNamed"
entry_fault_text Single = codes "E4 Single"
entry_fault_text Memory = codes "E5 Memory"
