-- Lists of changes, and the groups that take the accepted ones back.
use Rattle.std.specs.Prelude.{◌≡◌, ℕ, ◌<◌, ◌^◌, List, [], ◌∷◌, length, map, min, reverse, take, Option, None, Some, Result, Ok, Err}
use Rattle.std.specs.List.{flat_map}
use Rattle.dir_names.specs.declared.schema.TypeRow.{TypeRow}
use Rattle.dir_names.specs.Keys.{DnKeys}
use Rattle.dir_names.specs.NameKeys.{name_key}
use Rattle.dir_ldif.specs.declared.records.Change.{Change}
use Rattle.dir_tree.specs.Dir.{Dir}
use Rattle.dir_ldif.specs.declared.records.Record.TheVariants as form
use Rattle.dir_ldif.specs.RoundTrip.{without_line}
use Rattle.dir_ldif.specs.Records.{marks_up_to, records_of, records_up_to}
use Rattle.dir_tree.specs.WellFormed.{Each, IsWellFormed, IsWithinLimits}
use Rattle.dir_change.specs.declared.result_code.ResultCode.{ResultCode}
use Rattle.dir_change.specs.Operation.{step}
use Rattle.dir_change.specs.SoundChange.{IsSoundChange}
use Rattle.dir_change.specs.Undo.{IsUndo, directory_after_all, undo_of}
use Rattle.dir_change.specs.UndoText.{undo_text_of}

abbrev pub group_at : List TypeRow → Dir → Dir → Change → Option DnKeys → List Change
group_at rows before after change None = []
group_at rows before after change (Some k) = undo_of rows before after k change.kind

-- the group of an accepted change
abbrev pub group_of : List TypeRow → Dir → Dir → Change → List Change
group_of rows before after change = group_at rows before after change (name_key rows change.dn)

-- the group of a sound change on a well-formed directory within the limits is an undo of it
abbrev pub GroupsUndo : Type 0
GroupsUndo = (rows : List TypeRow) (before after : Dir) (change : Change) → IsWellFormed rows before → IsWithinLimits before → IsSoundChange rows change → step rows before change ≡ Ok after → IsUndo rows before after change (group_of rows before after change)

-- where a run of changes ends, and the groups of the accepted changes in their order
pub record Ending : Type 0 where
  pub end : Dir
  pub groups : List (List Change)

abbrev pub with_group_first : List Change → Ending → Ending
with_group_first group ending = record { end = ending.end; groups = group ∷ ending.groups }

abbrev pub accepted_or : Result Dir ResultCode → (Dir → Ending) → Ending → Ending
accepted_or (Ok e) f refused = f e
accepted_or (Err code) f refused = refused

-- a run that goes on after a refused change, which leaves the directory as it was
abbrev pub run_to_end : List TypeRow → Dir → List Change → Ending
run_to_end rows d [] = record { end = d; groups = [] }
run_to_end rows d (c ∷ cs) = accepted_or (step rows d c) (λ e. with_group_first (group_of rows d e c) (run_to_end rows e cs)) (run_to_end rows d cs)

-- a run that ends before the first refused change
abbrev pub run_to_refusal : List TypeRow → Dir → List Change → Ending
run_to_refusal rows d [] = record { end = d; groups = [] }
run_to_refusal rows d (c ∷ cs) = accepted_or (step rows d c) (λ e. with_group_first (group_of rows d e c) (run_to_refusal rows e cs)) (record { end = d; groups = [] })

-- the changes of the groups, the last accepted change's first
abbrev pub undo_changes : Ending → List Change
undo_changes ending = flat_map (λ group. group) (reverse ending.groups)

-- from the run's end its groups, the last first, are all accepted and lead to its beginning
abbrev pub LeadsBack : List TypeRow → Dir → Ending → Type 0
LeadsBack rows d ending = directory_after_all rows ending.end (undo_changes ending) ≡ Ok d

abbrev pub RunsAreTakenBack : Type 0
RunsAreTakenBack = (rows : List TypeRow) (d : Dir) (changes : List Change) → IsWellFormed rows d → IsWithinLimits d → Each (IsSoundChange rows) changes → LeadsBack rows d (run_to_end rows d changes) × LeadsBack rows d (run_to_refusal rows d changes)

-- the records of the undo text are the changes of the groups, the last accepted change's first, and none is faulty
abbrev pub ReadsBack : List TypeRow → Ending → Type 0
ReadsBack rows ending = map without_line (records_of rows (undo_text_of ending.groups)) ≡ map (λ c. Ok (Ok (form.Change c))) (undo_changes ending)

-- of its first groups, so many, the records are the changes of these, and as many marks are passed
abbrev pub FirstReadBack : List TypeRow → Ending → ℕ → Type 0
FirstReadBack rows ending k =
    (map without_line (records_up_to rows k (undo_text_of ending.groups)) ≡ map (λ c. Ok (Ok (form.Change c))) (flat_map (λ group. group) (take k (reverse ending.groups))))
    × (marks_up_to k (undo_text_of ending.groups) ≡ Some (min k (length ending.groups)))

abbrev pub ReadsBackByGroups : List TypeRow → Ending → Type 0
ReadsBackByGroups rows ending = ReadsBack rows ending × ((k : ℕ) → k < 2 ^ 64 → FirstReadBack rows ending k)

abbrev pub UndoTextsReadBack : Type 0
UndoTextsReadBack = (rows : List TypeRow) (d : Dir) (changes : List Change) → IsWellFormed rows d → IsWithinLimits d → Each (IsSoundChange rows) changes
    → ReadsBackByGroups rows (run_to_end rows d changes) × ReadsBackByGroups rows (run_to_refusal rows d changes)

-- where a run ends, the directory is well formed and within the limits, under the same suffix
abbrev pub StaysInOrder : List TypeRow → Dir → Ending → Type 0
StaysInOrder rows d ending = IsWellFormed rows ending.end × IsWithinLimits ending.end × (ending.end.suffix ≡ d.suffix)

abbrev pub RunsStayInOrder : Type 0
RunsStayInOrder = (rows : List TypeRow) (d : Dir) (changes : List Change) → IsWellFormed rows d → IsWithinLimits d → Each (IsSoundChange rows) changes → StaysInOrder rows d (run_to_end rows d changes) × StaysInOrder rows d (run_to_refusal rows d changes)
