-- Which faults a call can meet.
use Rattle.std.proofs.Common.{◌≡◌, Result, Ok, refl}
use Rattle.dir_names.specs.declared.fault.NameFault.{NameFault}
use Rattle.dir_names.specs.declared.fault.NameFault.TheVariants as name
use Rattle.dir_names.specs.Outcome as names
use Rattle.dir_tree.specs.declared.fault.EntryFault.TheVariants.{Memory}
use Rattle.dir_tree.specs.NewEntry.{entry_fault_of}

-- where the definition has an answer, memory alone can be in its way
pub only_memory : {A : Type 0} (fault : NameFault) (wanted : Result A NameFault) (x : A) → wanted ≡ Ok x → names.IsNameFaultOf fault wanted → entry_fault_of fault ≡ Memory
only_memory name.BadDescription wanted x is fails = absurd (cc)
only_memory name.ReservedName wanted x is fails = absurd (cc)
only_memory name.BadValue wanted x is fails = absurd (cc)
only_memory name.BadDn wanted x is fails = absurd (cc)
only_memory name.NameLimit wanted x is fails = absurd (cc)
only_memory name.Memory wanted x is fails = refl
only_memory name.BadType wanted x is fails = absurd (cc)
