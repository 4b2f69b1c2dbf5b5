-- The end of a run that makes one file: it is synced and published, and then the report is written.
use Rattle.std.specs.Prelude.{◌≡◌, ◌⊎◌, ℕ, List, [], ◌∷◌, Option, Result}
use Rattle.dir_tools.specs.declared.fault.Output.TheVariants as output
use Rattle.dir_tools.specs.declared.fault.ToolFault.TheVariants as tool
use Rattle.dir_files.specs.declared.fault.Fault.{Fault}
use Rattle.dir_files.specs.declared.files.Refusal.{Refusal}
use Rattle.dir_files.specs.declared.files.Refusal.TheVariants as refusal
use Rattle.dir_files.specs.Faults.{IsExists, IsNotReported, IsTool}
use Rattle.dir_files.specs.Files.{discards, publishes, reports, syncs, withdraws}
use Rattle.dir_files.specs.Runs.{Calls, Ends, Tries}

-- the file is not synced or published: that it exists already comes only where the file system says so
abbrev pub IsNotPublished : List ℕ → Fault → Refusal → Fault → Type 0
IsNotPublished path unwritten refusal.Exists e = IsExists path e
IsNotPublished path unwritten refusal.Memory e = IsTool tool.Memory e
IsNotPublished path unwritten refusal.Other e = e ≡ unwritten

-- the text is synced before the file gets its name, and the report comes after that
abbrev pub Finishes : {A : Type 0} → List ℕ → Option (List ℕ) → List ℕ → Fault → A → Result A Fault → Calls
Finishes path text report unwritten answer result =
    Tries (syncs path text) (IsNotPublished path unwritten) (discards path ∷ []) result
    (Tries (publishes path text) (IsNotPublished path unwritten) [] result
    (Tries (reports report) IsNotReported (withdraws path ∷ []) result (Ends answer result)))

-- the fault in which such an end fails
abbrev pub IsUnfinished : List ℕ → Fault → Fault → Type 0
IsUnfinished path unwritten e = (e ≡ unwritten) ⊎ (IsExists path e ⊎ (IsTool tool.Memory e ⊎ IsTool (tool.Write output.Report) e))
