-- Worked examples of the program's exit statuses, proved of the definitions.
use Rattle.std.proofs.Common.{◌≡◌, refl, Ok, Err}
use Rattle.dir_tools.specs.declared.fault.Output.TheVariants.{Report}
use Rattle.dir_tools.specs.declared.fault.ToolFault.TheVariants.{Write}
use Rattle.dir_files.specs.declared.fault.Fault.TheVariants.{Tool}
use Rattle.slapkit.specs.Status.{status_of}

pub all-accepted : status_of (Ok (record { accepted = 6; refused = 0 })) ≡ 0
all-accepted = refl

pub one-refused : status_of (Ok (record { accepted = 6; refused = 1 })) ≡ 1
one-refused = refl

pub ended-by-a-fault : status_of (Err (Tool (Write Report))) ≡ 1
ended-by-a-fault = refl
