-- The argument that is told after a fault of the configuration.
use Rattle.std.specs.Prelude.{◌≡◌, ◌⊎◌, ℕ, Bool, true, cond, List, [], ◌∷◌, Option, None, Some, IfSome, Result, Ok, Err}
use Rattle.dir_names.specs.Table.Builtin.{builtin_rows}
use Rattle.dir_names.specs.declared.fault.memory.Memory.{Memory}
use Rattle.dir_acl.specs.declared.deciding.FaultArgument.{FaultArgument}
use Rattle.dir_acl.specs.declared.fault.ConfigFault.{ConfigFault}
use Rattle.dir_acl.specs.Config.{config_types}
use Rattle.dir_tools.specs.AccessAnswers.{argument_under}
use Rattle.dir_tools.specs.declared.fault.ToolFault.{ToolFault}
use Rattle.dir_tools.specs.declared.fault.ToolFault.TheVariants as tool
use Rattle.dir_files.specs.declared.fault.Fault.{Fault}
use Rattle.dir_files.specs.declared.fault.Fault.TheVariants.{Tool}
use Rattle.dir_files.specs.Notes.{WereGiven}

-- more is to be told, and this is the argument that the fault is about, with the built-in types and those that the configuration defines
pub record IsTold (verbose : Bool) (text : Option (List ℕ)) (fault : ConfigFault) (arguments : List FaultArgument) : Type 0 where
  pub asked : verbose ≡ true
  pub argument : FaultArgument
  pub alone : arguments ≡ argument ∷ []
  pub found : IfSome text (λ text. Some argument ≡ argument_under (config_types builtin_rows text) text fault)

-- the arguments that are told of the tool's fault: that of the configuration's fault, or none. There is none, too, where memory ran out as it was sought
abbrev pub AreArgumentsOf : Bool → Option (List ℕ) → ToolFault → List FaultArgument → Type 0
AreArgumentsOf verbose text (tool.Config fault) arguments = (arguments ≡ []) ⊎ IsTold verbose text fault arguments
AreArgumentsOf verbose text fault arguments = arguments ≡ []

-- those that are told of this answer
abbrev pub AreArgumentsFor : {A : Type 0} → Bool → Option (List ℕ) → Result A Fault → List FaultArgument → Type 0
AreArgumentsFor verbose text (Ok answer) arguments = arguments ≡ []
AreArgumentsFor verbose text (Err (Tool fault)) arguments = AreArgumentsOf verbose text fault arguments
AreArgumentsFor verbose text (Err fault) arguments = arguments ≡ []

-- a teller was handed the arguments that are to be told of this answer, and no others
abbrev pub TellsArgument : {A : Type 0} → Bool → Option (List ℕ) → Result A Fault → Option (List FaultArgument) → Option (List FaultArgument) → Type 0
TellsArgument verbose text result before after = (arguments : List FaultArgument) × WereGiven before after arguments × AreArgumentsFor verbose text result arguments

-- ---- how it is handed over

abbrev pub found_argument : Result (Option FaultArgument) Memory → List FaultArgument
found_argument (Ok (Some argument)) = argument ∷ []
found_argument (Ok None) = []
found_argument (Err memory) = []

-- the arguments that a teller is handed where this was found
abbrev pub handed_over : Bool → Result (Option FaultArgument) Memory → List FaultArgument
handed_over verbose found = cond verbose (found_argument found) []
