-- Laws about copies and runs.
use Rattle.std.specs.Prelude.{◌≡◌, ℕ, ◌<◌, ◌^◌, Bool, List, [], ◌++◌, length, Option, None, Some, Ok}
use Rattle.dir_names.specs.declared.schema.TypeRow.{TypeRow}
use Rattle.dir_names.specs.Keys.{DnKeys}
use Rattle.dir_ldif.specs.Records.{Answer}
use Rattle.dir_ldif.specs.SoundRecords.{AreSoundAnswers, IsBytes}
use Rattle.dir_tree.specs.Dir.{Dir}
use Rattle.dir_tree.specs.WellFormed.{IsWellFormed, IsWithinLimits}
use Rattle.dir_change.specs.UndoText.{undo_text_of}
use Rattle.dir_tools.specs.Canonical.{canonical_of}
use Rattle.dir_tools.specs.CopyFaults.{HasRdn}
use Rattle.dir_tools.specs.CopyOf.{copy_of}
use Rattle.dir_tools.specs.RunOf.{AreUndos, HasAccepted, Outcome, ReadsAsGroups, RunEnd, causes_in, groups_in, looked_at_all, marks_at, records_at, run_of, too_few_groups}

-- what a text of bytes is the copy of, is well formed and within the limits
abbrev pub CopiesAreSound : Type 0
CopiesAreSound = (rows : List TypeRow) (suffix : DnKeys) (text : List ℕ) (d : Dir) → IsBytes text → HasRdn suffix → copy_of rows suffix text ≡ Ok d → IsWellFormed rows d × IsWithinLimits d

-- a canonical text reads back as its directory
abbrev pub CanonicalTextsReadBack : Type 0
CanonicalTextsReadBack = (rows : List TypeRow) (d : Dir) → IsWellFormed rows d → IsWithinLimits d → copy_of rows d.suffix (canonical_of d) ≡ Ok d

-- a run over sound records accepts sound changes, one after the other
abbrev pub RunsAcceptChanges : Type 0
RunsAcceptChanges = (rows : List TypeRow) (go_on : Bool) (d : Dir) (answers : List Answer) (ran : RunEnd) → AreSoundAnswers rows answers → run_of rows go_on d answers ≡ Ok ran → HasAccepted rows d ran.outcomes ran.end

-- the group of each of them is an undo of it
abbrev pub GroupsAreUndos : Type 0
GroupsAreUndos = (rows : List TypeRow) (d : Dir) (ran : RunEnd) → IsWellFormed rows d → IsWithinLimits d → HasAccepted rows d ran.outcomes ran.end → AreUndos rows d (groups_in ran.outcomes) ran.end

-- a run over the undo text of another from where that ended, or over its first groups, so many: it refuses nothing, has groups enough, and ends
-- at this directory
pub record LeadsBackTo (rows : List TypeRow) (suffix : DnKeys) (ran : RunEnd) (go_on : Bool) (last : Option ℕ) (point : Dir) : Type 0 where
  pub copied : copy_of rows suffix (canonical_of ran.end) ≡ Ok ran.end
  pub back : RunEnd
  pub runs : run_of rows go_on ran.end (records_at rows last (undo_text_of (groups_in ran.outcomes))) ≡ Ok back
  pub enough : too_few_groups last (marks_at last (undo_text_of (groups_in ran.outcomes))) (looked_at_all go_on back) ≡ None
  pub refuses_nothing : causes_in back.outcomes ≡ []
  pub ends_there : back.end ≡ point

-- the whole undo text leads back to where the run began, in both modes
abbrev pub WrittenRunsAreTakenBack : Type 0
WrittenRunsAreTakenBack = (rows : List TypeRow) (d : Dir) (ran : RunEnd) → IsWellFormed rows d → IsWithinLimits d → HasAccepted rows d ran.outcomes ran.end
    → ReadsAsGroups rows (undo_text_of (groups_in ran.outcomes)) (groups_in ran.outcomes) × ((go_on : Bool) → LeadsBackTo rows d.suffix ran go_on None d)

-- a run came by this point, and these outcomes were still to come
pub record CameBy (rows : List TypeRow) (d : Dir) (ran : RunEnd) (point : Dir) (later : List (ℕ × Outcome)) : Type 0 where
  pub before : List (ℕ × Outcome)
  pub outcomes : ran.outcomes ≡ before ++ later
  pub came : HasAccepted rows d before point
  pub went_on : HasAccepted rows point later ran.end

-- as many groups of the undo text as were accepted from a point on lead back to it, in both modes
abbrev pub WrittenRunsGoBack : Type 0
WrittenRunsGoBack = (rows : List TypeRow) (d : Dir) (ran : RunEnd) (point : Dir) (later : List (ℕ × Outcome)) → IsWellFormed rows d → IsWithinLimits d → HasAccepted rows d ran.outcomes ran.end
    → CameBy rows d ran point later → length (groups_in later) < 2 ^ 64 → (go_on : Bool) → LeadsBackTo rows d.suffix ran go_on (Some (length (groups_in later))) point
