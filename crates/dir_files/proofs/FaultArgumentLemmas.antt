-- The argument that is told after a fault of the configuration.
use Rattle.std.proofs.Common.{◌≡◌, ℕ, Bool, true, false, List, [], Option, None, Some, IfOk, IfSome, Result, Ok, Err, inl, inr, refl, sym, subst}
use Rattle.dir_names.specs.Table.Builtin.{builtin_rows}
use Rattle.dir_names.specs.declared.fault.memory.Memory.{Memory}
use Rattle.dir_acl.specs.declared.deciding.FaultArgument.{FaultArgument}
use Rattle.dir_acl.specs.declared.fault.ConfigFault.{ConfigFault}
use Rattle.dir_tools.specs.declared.fault.ToolFault.{ToolFault}
use Rattle.dir_tools.specs.declared.fault.ToolFault.TheVariants as tool
use Rattle.dir_tools.specs.AccessAnswers.{IsArgumentOf, IsConfigFault}
use Rattle.dir_files.specs.declared.fault.Fault.{Fault}
use Rattle.dir_files.specs.declared.fault.Fault.TheVariants as fault
use Rattle.dir_files.specs.FaultArguments.{AreArgumentsFor, AreArgumentsOf, TellsArgument, handed_over}
use Rattle.dir_files.specs.Faults.{IsRunFault, IsTool}
use Rattle.dir_files.specs.Files.{Call, Disk, Told, opens}
use Rattle.dir_files.specs.Notes.{WereGiven, told_text}
use Rattle.dir_files.specs.Runs.{Made}
use Rattle.dir_files.proofs.NoteLemmas.{at_path, is_told, none_given}

-- ---- no argument

none_of : (verbose : Bool) (text : Option (List ℕ)) (e : ToolFault) → AreArgumentsOf verbose text e []
none_of verbose text (tool.Config why) = inl refl
none_of verbose text (tool.Read from) = refl
none_of verbose text tool.Memory = refl
none_of verbose text (tool.Write to) = refl
none_of verbose text (tool.BadCopy line why) = refl
none_of verbose text (tool.BadQuestion item) = refl
none_of verbose text (tool.BadChanges why) = refl
none_of verbose text tool.NoEntry = refl
none_of verbose text (tool.TooFewGroups groups) = refl

none_for : {A : Type 0} (verbose : Bool) (text : Option (List ℕ)) (result : Result A Fault) → AreArgumentsFor verbose text result []
none_for verbose text (Ok answer) = refl
none_for verbose text (Err (fault.Tool e)) = none_of verbose text e
none_for verbose text (Err (fault.Questions why)) = refl
none_for verbose text (Err (fault.NoWords why)) = refl
none_for verbose text (Err (fault.TooFewGroups wanted groups)) = refl
none_for verbose text (Err (fault.Conf why)) = refl
none_for verbose text (Err fault.FlatUnwritten) = refl
none_for verbose text (Err (fault.SamePath path)) = refl
none_for verbose text (Err (fault.CannotOpen path)) = refl
none_for verbose text (Err (fault.Exists path)) = refl
none_for verbose text (Err fault.HasNotes) = refl
none_for verbose text (Err fault.NotesUntold) = refl

-- a teller that was handed none
pub none_told : {A : Type 0} (verbose : Bool) (text : Option (List ℕ)) (result : Result A Fault) (a b : Option (List FaultArgument)) → b ≡ a → TellsArgument verbose text result a b
none_told verbose text result a b same =
    ([], subst (λ (o : Option (List FaultArgument)). WereGiven a o []) (sym same) (none_given a), none_for verbose text result)

-- ---- that of the configuration's fault

of_config : (text : Option (List ℕ)) (why : ConfigFault) (found : Result (Option FaultArgument) Memory) (verbose : Bool)
    → IfOk found (IsArgumentOf builtin_rows text (tool.Config why)) → AreArgumentsOf verbose text (tool.Config why) (handed_over verbose found)
of_config text why found false h = inl refl
of_config text why (Err memory) true h = inl refl
of_config text why (Ok None) true h = inl refl
of_config text why (Ok (Some argument)) true h = inr (record { asked = refl; argument = argument; alone = refl; found = h })

-- another fault is about none
of_other : (found : Result (Option FaultArgument) Memory) (verbose : Bool) → IfOk found (λ argument. argument ≡ None) → handed_over verbose found ≡ []
of_other found false h = refl
of_other (Err memory) true h = refl
of_other (Ok None) true h = refl
of_other (Ok (Some argument)) true h = cc

handed : (verbose : Bool) (text : Option (List ℕ)) (e : ToolFault) (found : Result (Option FaultArgument) Memory) → IfOk found (IsArgumentOf builtin_rows text e)
    → AreArgumentsOf verbose text e (handed_over verbose found)
handed verbose text (tool.Config why) found h = of_config text why found verbose h
handed verbose text (tool.Read from) found h = of_other found verbose h
handed verbose text tool.Memory found h = of_other found verbose h
handed verbose text (tool.Write to) found h = of_other found verbose h
handed verbose text (tool.BadCopy line why) found h = of_other found verbose h
handed verbose text (tool.BadQuestion item) found h = of_other found verbose h
handed verbose text (tool.BadChanges why) found h = of_other found verbose h
handed verbose text tool.NoEntry found h = of_other found verbose h
handed verbose text (tool.TooFewGroups groups) found h = of_other found verbose h

as_shown : (A : Type 0) (verbose : Bool) (text : Option (List ℕ)) (arguments : List FaultArgument) (e : ToolFault) (shown : Fault) → AreArgumentsOf verbose text e arguments → IsTool e shown
    → AreArgumentsFor {A = A} verbose text (Err shown) arguments
as_shown A verbose text arguments e (fault.Tool told) h is = subst (λ (f : ToolFault). AreArgumentsOf verbose text f arguments) (sym is) h
as_shown A verbose text arguments e (fault.Questions why) h is = absurd (is)
as_shown A verbose text arguments e (fault.NoWords why) h is = absurd (is)
as_shown A verbose text arguments e (fault.TooFewGroups wanted groups) h is = absurd (is)
as_shown A verbose text arguments e (fault.Conf why) h is = absurd (is)
as_shown A verbose text arguments e fault.FlatUnwritten h is = absurd (is)
as_shown A verbose text arguments e (fault.SamePath path) h is = absurd (is)
as_shown A verbose text arguments e (fault.CannotOpen path) h is = absurd (is)
as_shown A verbose text arguments e (fault.Exists path) h is = absurd (is)
as_shown A verbose text arguments e fault.HasNotes h is = absurd (is)
as_shown A verbose text arguments e fault.NotesUntold h is = absurd (is)

-- a teller that was handed what was found
pub found_told : (A : Type 0) (verbose : Bool) (text : Option (List ℕ)) (e : ToolFault) (shown : Fault) (found : Result (Option FaultArgument) Memory) (a b : Option (List FaultArgument))
    → IsConfigFault builtin_rows text e → IfOk found (IsArgumentOf builtin_rows text e) → IsRunFault e shown → WereGiven a b (handed_over verbose found)
    → TellsArgument {A = A} verbose text (Err shown) a b
found_told A verbose text e shown found a b config h is given =
    (handed_over verbose found, given, as_shown A verbose text (handed_over verbose found) e shown (handed verbose text e found h) (is_told text e shown config is))

-- ---- the text, where the file system tells its calls until the end

unknown_of : (verbose : Bool) (text : Option (List ℕ)) (arguments : List FaultArgument) (e : ToolFault) → AreArgumentsOf verbose text e arguments → AreArgumentsOf verbose None e arguments
unknown_of verbose text arguments (tool.Config why) (inl none) = inl none
unknown_of verbose text arguments (tool.Config why) (inr told) = inr (record { asked = told.asked; argument = told.argument; alone = told.alone; found = tt })
unknown_of verbose text arguments (tool.Read from) h = h
unknown_of verbose text arguments tool.Memory h = h
unknown_of verbose text arguments (tool.Write to) h = h
unknown_of verbose text arguments (tool.BadCopy line why) h = h
unknown_of verbose text arguments (tool.BadQuestion item) h = h
unknown_of verbose text arguments (tool.BadChanges why) h = h
unknown_of verbose text arguments tool.NoEntry h = h
unknown_of verbose text arguments (tool.TooFewGroups groups) h = h

unknown : {A : Type 0} (verbose : Bool) (text : Option (List ℕ)) (arguments : List FaultArgument) (result : Result A Fault) → AreArgumentsFor verbose text result arguments → AreArgumentsFor verbose None result arguments
unknown verbose text arguments (Ok answer) h = h
unknown verbose text arguments (Err (fault.Tool e)) h = unknown_of verbose text arguments e h
unknown verbose text arguments (Err (fault.Questions why)) h = h
unknown verbose text arguments (Err (fault.NoWords why)) h = h
unknown verbose text arguments (Err (fault.TooFewGroups wanted groups)) h = h
unknown verbose text arguments (Err (fault.Conf why)) h = h
unknown verbose text arguments (Err fault.FlatUnwritten) h = h
unknown verbose text arguments (Err (fault.SamePath path)) h = h
unknown verbose text arguments (Err (fault.CannotOpen path)) h = h
unknown verbose text arguments (Err (fault.Exists path)) h = h
unknown verbose text arguments (Err fault.HasNotes) h = h
unknown verbose text arguments (Err fault.NotesUntold) h = h

-- what is said of the text that the reader of the configuration had is said of that at its path
pub argument_told_at : {A : Type 0} (verbose : Bool) (path other : List ℕ) (result : Result A Fault) (R : Disk → List Call → Type 0) (a b c e : Option Disk) (text : Option (List ℕ)) (g g' : Option (List FaultArgument))
    → Told a b (opens path None) → Told b c (opens other None) → Made c e R → IfSome b (λ d. text ≡ d.text_at path)
    → TellsArgument verbose text result g g' → TellsArgument verbose (told_text a e path) result g g'
argument_told_at verbose path other result R a b c e text g g' first second made is h =
    at_path (λ (t : Option (List ℕ)). TellsArgument verbose t result g g') path other R a b c e text first second made is (h.0, h.1, unknown verbose text h.0 result h.2) h
