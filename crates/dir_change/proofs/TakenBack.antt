-- The groups of a run, the last first, lead back to its beginning.
use Rattle.std.proofs.Common.{◌≡◌, true, List, [], ◌∷◌, ◌++◌, reverse, Option, Some, None, is_some, Result, Ok, Err, refl, sym, ap, subst, ◌∙◌, append_assoc}
use Rattle.std.proofs.lemmas.List.{append-nil, reverse-append}
use Rattle.std.specs.List.{flat_map}
use Rattle.dir_names.specs.declared.schema.TypeRow.{TypeRow}
use Rattle.dir_names.specs.Keys.{DnKeys}
use Rattle.dir_names.specs.NameKeys.{name_key}
use Rattle.dir_ldif.specs.declared.records.Change.{Change}
use Rattle.dir_ldif.specs.declared.records.ChangeKind.{ChangeKind}
use Rattle.dir_ldif.specs.declared.records.ChangeKind.TheVariants as kind
use Rattle.dir_ldif.specs.LegalRecords.{is_legal_kind}
use Rattle.dir_ldif.specs.SoundRecords.{IsSoundKind}
use Rattle.dir_names.proofs.Both.{right}
use Rattle.dir_tree.specs.Dir.{Dir}
use Rattle.dir_tree.specs.WellFormed.{Each, IsWellFormed, IsWithinLimits}
use Rattle.dir_change.specs.declared.result_code.ResultCode.{ResultCode}
use Rattle.dir_change.specs.Operation.{directory_after, step, step_at}
use Rattle.dir_change.specs.Runs.{Ending, LeadsBack, RunsAreTakenBack, accepted_or, group_at, group_of, run_to_end, run_to_refusal, undo_changes, with_group_first}
use Rattle.dir_change.specs.SoundChange.{IsSoundChange}
use Rattle.dir_names.specs.Results.{and_then}
use Rattle.dir_change.specs.Undo.{TakesBack, directory_after_all, undo_of}
use Rattle.dir_change.proofs.LegalValues.{legal_mods}
use Rattle.dir_change.proofs.ModifyBack.{modify_taken_back}
use Rattle.dir_change.proofs.RenameAccepted.{renamed_at}
use Rattle.dir_change.proofs.RenameBack.{after, group_is, rename_taken_back}
use Rattle.dir_change.proofs.StaysWellFormed.{legal_rdn, step_keeps}
use Rattle.dir_change.proofs.StaysWithinLimits.{step_within}
use Rattle.dir_change.proofs.AfterOperations.{add_taken_back, delete_taken_back}

module _ (rows : List TypeRow) where
  steps_append : (d : Dir) (xs ys : List Change) → directory_after_all rows d (xs ++ ys) ≡ and_then (directory_after_all rows d xs) (λ e. directory_after_all rows e ys)
  steps_append d [] ys = refl
  steps_append d (c ∷ xs) ys = by (step rows d c) (λ e. steps_append e xs ys)
    where
      by : (r : Result Dir ResultCode) → ((e : Dir) → directory_after_all rows e (xs ++ ys) ≡ and_then (directory_after_all rows e xs) (λ f. directory_after_all rows f ys)) →
          and_then r (λ e. directory_after_all rows e (xs ++ ys)) ≡ and_then (and_then r (λ e. directory_after_all rows e xs)) (λ e. directory_after_all rows e ys)
      by (Ok e) rest = rest e
      by (Err code) rest = refl

  joined_name : {A : Type 0} (xs ys : List (List A)) → flat_map (λ g. g) (xs ++ ys) ≡ flat_map (λ g. g) xs ++ flat_map (λ g. g) ys
  joined_name [] ys = refl
  joined_name (x ∷ xs) ys = ap (λ z. x ++ z) (joined_name xs ys) ∙ sym (append_assoc x (flat_map (λ g. g) xs) (flat_map (λ g. g) ys))

  pub last_behind : (group : List Change) (ending : Ending) → undo_changes (with_group_first group ending) ≡ undo_changes ending ++ group
  last_behind group ending =
      ap (flat_map (λ g. g)) (reverse-append (group ∷ []) ending.groups)
      ∙ joined_name (reverse ending.groups) (group ∷ [])
      ∙ ap (λ z. undo_changes ending ++ z) (append-nil group)

  -- the group of an accepted change
  pub group_back : (d : Dir) (change : Change) → IsWellFormed rows d → IsWithinLimits d → IsSoundChange rows change → (new : Dir) → step rows d change ≡ Ok new → TakesBack rows d new (group_of rows d new change)
  group_back d change well within sound new is = by (name_key rows change.dn) refl is
    where
      done : (k : DnKeys) → name_key rows change.dn ≡ Some k → (c : ChangeKind) → is_legal_kind rows c ≡ true → IsSoundKind c → directory_after rows d k change.dn c ≡ Ok new → TakesBack rows d new (undo_of rows d new k c)
      done k t (kind.Add lines) legal bytes h = add_taken_back rows d well.1 (λ q x there. (well.2 q x there).1) k change.dn lines t new h
      done k t kind.Delete legal bytes h = delete_taken_back rows d well k new h
      done k t (kind.Modify mods) legal bytes h = modify_taken_back rows d well k mods (legal_mods rows mods legal bytes) new (step_keeps rows d change well sound new is) h
      done k t (kind.Rename rdn delete_old superior) legal bytes h =
          let known = renamed_at rows d k rdn delete_old superior new h in
          let pairs = legal_rdn rdn bytes.0.0 bytes.0.1 in
          let kept = subst (IsWellFormed rows) known.is (step_keeps rows d change well sound new is) in
          subst (λ z. TakesBack rows d z (undo_of rows d z k (kind.Rename rdn delete_old superior))) (sym known.is)
          (subst (TakesBack rows d (after rows d well within k rdn delete_old superior new known pairs)) (sym (group_is rows d well within k rdn delete_old superior new known pairs)) (rename_taken_back rows d well within k rdn delete_old superior new known pairs kept))

      by : (o : Option DnKeys) → name_key rows change.dn ≡ o → step_at rows d change o ≡ Ok new → TakesBack rows d new (group_at rows d new change o)
      by None t h = absurd (cc)
      by (Some k) t h = done k t change.kind (right (is_some (name_key rows change.dn)) (is_legal_kind rows change.kind) sound.0) sound.1.1 h

  -- what leads back to the directory after an accepted change, and then takes that change back, leads back to the directory before it
  more_back : (d e : Dir) (group : List Change) (ending : Ending) → TakesBack rows d e group → LeadsBack rows e ending → LeadsBack rows d (with_group_first group ending)
  more_back d e group ending one rest =
      ap (directory_after_all rows ending.end) (last_behind group ending)
      ∙ steps_append ending.end (undo_changes ending) group
      ∙ ap (λ r. and_then r (λ f. directory_after_all rows f group)) rest
      ∙ one

  on_back : (d : Dir) (changes : List Change) → IsWellFormed rows d → IsWithinLimits d → Each (IsSoundChange rows) changes → LeadsBack rows d (run_to_end rows d changes)
  on_back d [] well within sound = refl
  on_back d (c ∷ cs) well within sound = by (step rows d c) refl (λ e w l. on_back e cs w l sound.1)
    where
      by : (r : Result Dir ResultCode) → step rows d c ≡ r → ((e : Dir) → IsWellFormed rows e → IsWithinLimits e → LeadsBack rows e (run_to_end rows e cs)) →
          LeadsBack rows d (accepted_or r (λ e. with_group_first (group_of rows d e c) (run_to_end rows e cs)) (run_to_end rows d cs))
      by (Ok e) t rest = more_back d e (group_of rows d e c) (run_to_end rows e cs) (group_back d c well within sound.0 e t) (rest e (step_keeps rows d c well sound.0 e t) (step_within rows d c within sound.0 e t))
      by (Err code) t rest = rest d well within

  stop_back : (d : Dir) (changes : List Change) → IsWellFormed rows d → IsWithinLimits d → Each (IsSoundChange rows) changes → LeadsBack rows d (run_to_refusal rows d changes)
  stop_back d [] well within sound = refl
  stop_back d (c ∷ cs) well within sound = by (step rows d c) refl (λ e w l. stop_back e cs w l sound.1)
    where
      by : (r : Result Dir ResultCode) → step rows d c ≡ r → ((e : Dir) → IsWellFormed rows e → IsWithinLimits e → LeadsBack rows e (run_to_refusal rows e cs)) →
          LeadsBack rows d (accepted_or r (λ e. with_group_first (group_of rows d e c) (run_to_refusal rows e cs)) (record { end = d; groups = [] }))
      by (Ok e) t rest = more_back d e (group_of rows d e c) (run_to_refusal rows e cs) (group_back d c well within sound.0 e t) (rest e (step_keeps rows d c well sound.0 e t) (step_within rows d c within sound.0 e t))
      by (Err code) t rest = refl

pub taken_back : RunsAreTakenBack
taken_back rows d changes well within sound = (on_back rows d changes well within sound, stop_back rows d changes well within sound)
