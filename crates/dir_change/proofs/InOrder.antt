-- Where a run of sound changes ends, as much is in order as where it began.
use Rattle.std.proofs.Common.{◌≡◌, List, [], ◌∷◌, Option, None, Some, Result, Ok, Err, refl, ap, ◌∙◌}
use Rattle.dir_names.specs.declared.schema.TypeRow.{TypeRow}
use Rattle.dir_names.specs.Keys.{DnKeys}
use Rattle.dir_names.specs.NameKeys.{name_key}
use Rattle.dir_ldif.specs.declared.records.Change.{Change}
use Rattle.dir_ldif.specs.declared.records.ChangeKind.{ChangeKind}
use Rattle.dir_ldif.specs.declared.records.ChangeKind.TheVariants as kind
use Rattle.dir_tree.specs.Dir.{Dir}
use Rattle.dir_tree.specs.WellFormed.{Each, IsWellFormed, IsWithinLimits}
use Rattle.dir_change.specs.declared.result_code.ResultCode.{ResultCode}
use Rattle.dir_change.specs.Operation.{directory_after, step, step_at}
use Rattle.dir_change.specs.Runs.{Ending, RunsStayInOrder, StaysInOrder, accepted_or, group_of, run_to_end, run_to_refusal, with_group_first}
use Rattle.dir_change.specs.SoundChange.{IsSoundChange}
use Rattle.dir_change.proofs.AfterOperations.{added_is, deleted_is}
use Rattle.dir_change.proofs.ModifyBack.{modified_at}
use Rattle.dir_change.proofs.RenameAccepted.{renamed_at}
use Rattle.dir_change.proofs.StaysWellFormed.{step_keeps}
use Rattle.dir_change.proofs.StaysWithinLimits.{step_within}

-- a step leaves the suffix
step_suffix : (rows : List TypeRow) (d new : Dir) (change : Change) → step rows d change ≡ Ok new → new.suffix ≡ d.suffix
step_suffix rows d new change is = by (name_key rows change.dn) is
  where
    done : (k : DnKeys) (c : ChangeKind) → directory_after rows d k change.dn c ≡ Ok new → new.suffix ≡ d.suffix
    done k (kind.Add lines) h = ap (λ (e : Dir). e.suffix) (added_is rows d k change.dn lines new h).5
    done k kind.Delete h = ap (λ (e : Dir). e.suffix) (deleted_is d k new h).3
    done k (kind.Modify mods) h = ap (λ (e : Dir). e.suffix) (modified_at rows d k mods new h).is
    done k (kind.Rename rdn delete_old superior) h = ap (λ (e : Dir). e.suffix) (renamed_at rows d k rdn delete_old superior new h).is

    by : (o : Option DnKeys) → step_at rows d change o ≡ Ok new → new.suffix ≡ d.suffix
    by None h = absurd (cc)
    by (Some k) h = done k change.kind h

module _ (rows : List TypeRow) where
  later : (d e : Dir) (group : List Change) (ending : Ending) → e.suffix ≡ d.suffix → StaysInOrder rows e ending → StaysInOrder rows d (with_group_first group ending)
  later d e group ending same stays = (stays.0, stays.1, stays.2 ∙ same)

  on_stays : (d : Dir) (changes : List Change) → IsWellFormed rows d → IsWithinLimits d → Each (IsSoundChange rows) changes → StaysInOrder rows d (run_to_end rows d changes)
  on_stays d [] well within sound = (well, within, refl)
  on_stays d (c ∷ cs) well within sound = by (step rows d c) refl (λ e w l. on_stays e cs w l sound.1)
    where
      by : (r : Result Dir ResultCode) → step rows d c ≡ r → ((e : Dir) → IsWellFormed rows e → IsWithinLimits e → StaysInOrder rows e (run_to_end rows e cs)) →
          StaysInOrder rows d (accepted_or r (λ e. with_group_first (group_of rows d e c) (run_to_end rows e cs)) (run_to_end rows d cs))
      by (Ok e) t rest = later d e (group_of rows d e c) (run_to_end rows e cs) (step_suffix rows d e c t) (rest e (step_keeps rows d c well sound.0 e t) (step_within rows d c within sound.0 e t))
      by (Err code) t rest = rest d well within

  stop_stays : (d : Dir) (changes : List Change) → IsWellFormed rows d → IsWithinLimits d → Each (IsSoundChange rows) changes → StaysInOrder rows d (run_to_refusal rows d changes)
  stop_stays d [] well within sound = (well, within, refl)
  stop_stays d (c ∷ cs) well within sound = by (step rows d c) refl (λ e w l. stop_stays e cs w l sound.1)
    where
      by : (r : Result Dir ResultCode) → step rows d c ≡ r → ((e : Dir) → IsWellFormed rows e → IsWithinLimits e → StaysInOrder rows e (run_to_refusal rows e cs)) →
          StaysInOrder rows d (accepted_or r (λ e. with_group_first (group_of rows d e c) (run_to_refusal rows e cs)) (record { end = d; groups = [] }))
      by (Ok e) t rest = later d e (group_of rows d e c) (run_to_refusal rows e cs) (step_suffix rows d e c t) (rest e (step_keeps rows d c well sound.0 e t) (step_within rows d c within sound.0 e t))
      by (Err code) t rest = (well, within, refl)

pub runs_stay : RunsStayInOrder
runs_stay rows d changes well within sound = (on_stays rows d changes well within sound, stop_stays rows d changes well within sound)
