-- What a call that may answer a fault of this crate meets.
use Rattle.std.specs.Prelude.{◌≡◌, Result, Err}
use Rattle.dir_names.specs.Results.{Meets}
use Rattle.dir_conf.specs.declared.fault.ConfFault.{ConfFault}
use Rattle.dir_conf.specs.declared.fault.ConfFault.TheVariants as fault
use Rattle.dir_conf.specs.declared.slapd_conf.FileFault.{FileFault}

-- the fault is the definition's, or memory ran out
abbrev pub IsConfFaultOf : {A : Type 0} → ConfFault → Result A ConfFault → Type 0
IsConfFaultOf (fault.BadLine line why) wanted = wanted ≡ Err (fault.BadLine line why)
IsConfFaultOf (fault.Ended why) wanted = wanted ≡ Err (fault.Ended why)
IsConfFaultOf (fault.BadInclude line) wanted = wanted ≡ Err (fault.BadInclude line)
IsConfFaultOf (fault.BadOrder line) wanted = wanted ≡ Err (fault.BadOrder line)
IsConfFaultOf (fault.BadArguments line) wanted = wanted ≡ Err (fault.BadArguments line)
IsConfFaultOf (fault.BadName line) wanted = wanted ≡ Err (fault.BadName line)
IsConfFaultOf fault.NoDatabase wanted = wanted ≡ Err fault.NoDatabase
IsConfFaultOf (fault.SecondDatabase line) wanted = wanted ≡ Err (fault.SecondDatabase line)
IsConfFaultOf (fault.Subordinate line) wanted = wanted ≡ Err (fault.Subordinate line)
IsConfFaultOf fault.TooLong wanted = wanted ≡ Err fault.TooLong
IsConfFaultOf fault.Memory wanted = Unit {0}

-- the answer of a call, seen by `view`, is the definition's, value or fault, unless memory ran out
abbrev pub GivesConf : {A T : Type 0} → (T → A) → Result T ConfFault → Result A ConfFault → Type 0
GivesConf view result wanted = Meets IsConfFaultOf view result wanted

abbrev pub IsFileFaultBy : {A : Type 0} → ConfFault → FileFault → Result A FileFault → Type 0
IsFileFaultBy fault.Memory e wanted = Unit {0}
IsFileFaultBy why e wanted = wanted ≡ Err e

-- the same of a fault with its file
abbrev pub IsFileFaultOf : {A : Type 0} → FileFault → Result A FileFault → Type 0
IsFileFaultOf e wanted = IsFileFaultBy e.fault e wanted

abbrev pub GivesInFile : {A T : Type 0} → (T → A) → Result T FileFault → Result A FileFault → Type 0
GivesInFile view result wanted = Meets IsFileFaultOf view result wanted

-- a fault that was located, unless memory ran out
abbrev pub IsLocated : FileFault → FileFault → Type 0
IsLocated wanted e = IsFileFaultBy {A = FileFault} e.fault e (Err wanted)
