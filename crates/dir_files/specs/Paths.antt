-- The paths of a command line, which must differ.
use Rattle.std.specs.Prelude.{◌≡◌, ◌⊎◌, ℕ, Bool, true, false, List, [], ◌∷◌, ◌++◌, cond, Option, None, Some, Result, Ok, Err, ⊤}
use denote.Ref.{Bor}
use Rattle.std.specs.List.{list_any}
use Rattle.std.specs.Option.{option_copied}
use Rattle.dir_names.specs.Orders.{bytes_eq}
use Rattle.dir_files.specs.declared.words.ModifyWords.{ModifyWords}
use Rattle.dir_files.specs.declared.words.OutputPaths.{OutputPaths}
use Rattle.dir_files.specs.declared.fault.Fault.{Fault}
use Rattle.dir_files.specs.declared.fault.Fault.TheVariants.{CannotOpen, Exists, SamePath, TooFewGroups, Tool}

abbrev pub given : Option (List ℕ) → List (List ℕ)
given None = []
given (Some path) = path ∷ []

-- the paths that are given: the configuration, the copy, the new copy, the undo file, the changes. In a dry run too they must differ
abbrev pub paths_of : ModifyWords → List (List ℕ)
paths_of words = given (option_copied words.config) ++ words.data.now ∷ given (option_copied words.out) ++ given (option_copied words.undo)
    ++ given (option_copied words.changes)

abbrev pub first_seen_before : List (List ℕ) → List (List ℕ) → Option (List ℕ)
first_seen_before before [] = None
first_seen_before before (p ∷ ps) = cond (list_any (bytes_eq p) before) (Some p) (first_seen_before (before ++ p ∷ []) ps)

-- the first path that is the same text as one before it
abbrev pub first_repeated : ModifyWords → Option (List ℕ)
first_repeated words = first_seen_before [] (paths_of words)

-- ---- the files to be written

abbrev pub both_outputs : Option (Bor (List ℕ)) → Option (Bor (List ℕ)) → Option OutputPaths
both_outputs (Some out) (Some undo) = Some (record { out = out; undo = undo })
both_outputs out undo = None

abbrev pub outputs_unless : Bool → Option (Bor (List ℕ)) → Option (Bor (List ℕ)) → Option OutputPaths
outputs_unless true out undo = None
outputs_unless false out undo = both_outputs out undo

-- the files to be written, if both are given: none in a dry run
abbrev pub outputs_of : ModifyWords → Option OutputPaths
outputs_of words = outputs_unless words.options.dry words.out words.undo

abbrev pub output_paths : Option OutputPaths → List (List ℕ)
output_paths None = []
output_paths (Some paths) = paths.out.now ∷ paths.undo.now ∷ []

-- ---- faults

abbrev pub IsAmong : List ℕ → List (List ℕ) → Type 0
IsAmong path [] = ⊥
IsAmong path (p ∷ ps) = (path ≡ p) ⊎ IsAmong path ps

-- the fault of a run whose paths differ: `CannotOpen` names a path that was given, `Exists` a file to be written; or it is the tool's own, or that there are too few groups. Of the files themselves it says nothing
abbrev pub NamesItsPath : ModifyWords → Fault → Type 0
NamesItsPath words (CannotOpen path) = IsAmong path.now (paths_of words)
NamesItsPath words (Exists path) = IsAmong path.now (output_paths (outputs_of words))
NamesItsPath words (TooFewGroups wanted groups) = ⊤
NamesItsPath words (Tool fault) = ⊤
NamesItsPath words other = ⊥

-- a fault of writing: `Exists` names a file to be written; or it is the tool's own
abbrev pub IsWriteFaultOf : OutputPaths → Fault → Type 0
IsWriteFaultOf paths (Exists path) = IsAmong path.now (output_paths (Some paths))
IsWriteFaultOf paths (Tool fault) = ⊤
IsWriteFaultOf paths other = ⊥

-- the fault says which path is given twice
abbrev pub IsSamePath : {A : Type 0} → List ℕ → Result A Fault → Type 0
IsSamePath path (Err (SamePath named)) = named.now ≡ path
IsSamePath path other = ⊥

-- the first path that is given twice is refused; where none is, the run answers or has one of the other faults
abbrev pub RefusesSamePath : {A : Type 0} → ModifyWords → Option (List ℕ) → Result A Fault → Type 0
RefusesSamePath words (Some path) result = IsSamePath path result
RefusesSamePath words None (Ok answer) = ⊤
RefusesSamePath words None (Err fault) = NamesItsPath words fault
