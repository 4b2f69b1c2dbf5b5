-- The undo text of a run reads back as the changes of its groups.
use Rattle.std.proofs.Common.{◌≡◌, ℕ, zero, suc, ◌+◌, List, [], ◌∷◌, ◌++◌, length, map, min, reverse, take, codes, Some, Result, Ok, Err, refl, sym, ap, subst, ◌∙◌}
use Rattle.std.proofs.lemmas.List.{length-reverse}
use Rattle.std.specs.List.{flat_map}
use Rattle.dir_names.specs.declared.schema.TypeRow.{TypeRow}
use Rattle.dir_ldif.specs.declared.faults.RecordFault.{RecordFault}
use Rattle.dir_ldif.specs.declared.faults.StreamFault.{StreamFault}
use Rattle.dir_ldif.specs.declared.records.Change.{Change}
use Rattle.dir_ldif.specs.declared.records.Record.{Record}
use Rattle.dir_ldif.specs.declared.records.Record.TheVariants as form
use Rattle.dir_ldif.specs.MarkedGroups.{AreSoundGroups, MarkedGroupsReadBack}
use Rattle.dir_ldif.specs.MarkedGroups.{marked_text as marked_records}
use Rattle.dir_ldif.specs.MarkText.{mark_line}
use Rattle.dir_ldif.specs.RoundTrip.{records_text, without_line}
use Rattle.dir_ldif.specs.SoundRecords.{AreLegalAndSound}
use Rattle.dir_ldif.specs.Records.{marks_up_to, records_of, records_up_to}
use Rattle.dir_ldif.specs.RecordText.{change_text}
use Rattle.dir_tree.specs.Dir.{Dir}
use Rattle.dir_tree.specs.WellFormed.{Each, IsWellFormed, IsWithinLimits}
use Rattle.dir_change.specs.declared.result_code.ResultCode.{ResultCode}
use Rattle.dir_change.specs.Operation.{step}
use Rattle.dir_change.specs.Runs.{Ending, ReadsBackByGroups, UndoTextsReadBack, accepted_or, group_of, run_to_end, run_to_refusal, undo_changes, with_group_first}
use Rattle.dir_change.specs.SoundChange.{IsSoundChange}
use Rattle.dir_change.specs.UndoText.{marked_text}
use Rattle.dir_change.proofs.StaysWellFormed.{step_keeps}
use Rattle.dir_change.proofs.TakenBack.{last_behind}
use Rattle.dir_change.proofs.StaysWithinLimits.{group_sound, step_within}

each_append : {A : Type 0} (P : A → Type 0) (xs ys : List A) → Each P xs → Each P ys → Each P (xs ++ ys)
each_append P [] ys x y = y
each_append P (a ∷ xs) ys x y = (x.0, each_append P xs ys x.1 y)

each_first : {A : Type 0} (P : A → Type 0) (xs ys : List A) → Each P (xs ++ ys) → Each P xs
each_first P [] ys h = tt
each_first P (a ∷ xs) ys h = (h.0, each_first P xs ys h.1)

each_last : {A : Type 0} (P : A → Type 0) (xs ys : List A) → Each P (xs ++ ys) → Each P ys
each_last P [] ys h = h
each_last P (a ∷ xs) ys h = each_last P xs ys h.1

-- ---- groups of changes as groups of records

abbrev as_group : List Change → List Record
as_group group = map (λ c. form.Change c) group

as_records : (changes : List Change) → flat_map change_text changes ≡ records_text (as_group changes)
as_records [] = refl
as_records (c ∷ cs) = ap (λ z. change_text c ++ z) (as_records cs)

marked_same : (n : ℕ) (groups : List (List Change)) → marked_text n groups ≡ marked_records n (map as_group groups)
marked_same n [] = refl
marked_same n (group ∷ groups) =
    ap (λ z. mark_line n ++ (z ++ marked_text (n + 1) groups)) (as_records group) ∙ ap (λ z. mark_line n ++ (records_text (as_group group) ++ z)) (marked_same (n + 1) groups)

as_append : (xs ys : List Change) → as_group (xs ++ ys) ≡ as_group xs ++ as_group ys
as_append [] ys = refl
as_append (x ∷ xs) ys = ap (λ z. form.Change x ∷ z) (as_append xs ys)

joined : (groups : List (List Change)) → flat_map (λ g. g) (map as_group groups) ≡ as_group (flat_map (λ g. g) groups)
joined [] = refl
joined (group ∷ groups) = ap (λ z. as_group group ++ z) (joined groups) ∙ sym (as_append group (flat_map (λ g. g) groups))

first_same : (k : ℕ) (groups : List (List Change)) → take k (map as_group groups) ≡ map as_group (take k groups)
first_same zero groups = refl
first_same (suc k) [] = refl
first_same (suc k) (group ∷ groups) = ap (λ z. as_group group ∷ z) (first_same k groups)

count_same : (groups : List (List Change)) → length (map as_group groups) ≡ length groups
count_same [] = refl
count_same (group ∷ groups) = ap suc (count_same groups)

module _ (rows : List TypeRow) where
  all_sound : (changes : List Change) → Each (IsSoundChange rows) changes → AreLegalAndSound rows (map (λ c. form.Change c) changes)
  all_sound [] sound = tt
  all_sound (c ∷ cs) sound = (sound.0.0, sound.0.1, all_sound cs sound.1)

  abbrev fine : Record → Result (Result Record RecordFault) StreamFault
  fine r = Ok (Ok r)

  answers : (changes : List Change) → map fine (map (λ c. form.Change c) changes) ≡ map (λ c. fine (form.Change c)) changes
  answers [] = refl
  answers (c ∷ cs) = ap (λ z. fine (form.Change c) ∷ z) (answers cs)

  sound_groups : (groups : List (List Change)) → Each (IsSoundChange rows) (flat_map (λ g. g) groups) → AreSoundGroups rows (map as_group groups)
  sound_groups [] h = tt
  sound_groups (group ∷ groups) h =
      (all_sound group (each_first (IsSoundChange rows) group (flat_map (λ g. g) groups) h), sound_groups groups (each_last (IsSoundChange rows) group (flat_map (λ g. g) groups) h))

  back_as : (groups : List (List Change)) → map fine (flat_map (λ g. g) (map as_group groups)) ≡ map (λ c. fine (form.Change c)) (flat_map (λ g. g) groups)
  back_as groups = ap (map fine) (joined groups) ∙ answers (flat_map (λ g. g) groups)

  read_back : (law : MarkedGroupsReadBack) (ending : Ending) → Each (IsSoundChange rows) (undo_changes ending) → ReadsBackByGroups rows ending
  read_back law ending sound =
      let groups = reverse ending.groups in
      let same = ap (λ z. codes "version: 1\n\n" ++ z) (marked_same 1 groups) in
      let reads = law rows (map as_group groups) (sound_groups groups sound) in (
        ap (λ text. map without_line (records_of rows text)) same ∙ reads.0 ∙ back_as groups,
        λ k fits. let first = reads.1 k fits in (
          ap (λ text. map without_line (records_up_to rows k text)) same ∙ first.0 ∙ ap (λ gs. map fine (flat_map (λ g. g) gs)) (first_same k groups) ∙ back_as (take k groups),
          ap (marks_up_to k) same ∙ first.1 ∙ ap (λ n. Some (min k n)) (count_same groups ∙ length-reverse ending.groups),
        ),
      )

  more_sound : (group : List Change) (ending : Ending) → Each (IsSoundChange rows) group → Each (IsSoundChange rows) (undo_changes ending) → Each (IsSoundChange rows) (undo_changes (with_group_first group ending))
  more_sound group ending one rest = subst (Each (IsSoundChange rows)) (sym (last_behind rows group ending)) (each_append (IsSoundChange rows) (undo_changes ending) group rest one)

  on_sound : (d : Dir) (changes : List Change) → IsWellFormed rows d → IsWithinLimits d → Each (IsSoundChange rows) changes → Each (IsSoundChange rows) (undo_changes (run_to_end rows d changes))
  on_sound d [] well within sound = tt
  on_sound d (c ∷ cs) well within sound = by (step rows d c) refl (λ e w l. on_sound e cs w l sound.1)
    where
      by : (r : Result Dir ResultCode) → step rows d c ≡ r → ((e : Dir) → IsWellFormed rows e → IsWithinLimits e → Each (IsSoundChange rows) (undo_changes (run_to_end rows e cs))) →
          Each (IsSoundChange rows) (undo_changes (accepted_or r (λ e. with_group_first (group_of rows d e c) (run_to_end rows e cs)) (run_to_end rows d cs)))
      by (Ok e) t rest = more_sound (group_of rows d e c) (run_to_end rows e cs) (group_sound rows d c well within sound.0 e t) (rest e (step_keeps rows d c well sound.0 e t) (step_within rows d c within sound.0 e t))
      by (Err code) t rest = rest d well within

  stop_sound : (d : Dir) (changes : List Change) → IsWellFormed rows d → IsWithinLimits d → Each (IsSoundChange rows) changes → Each (IsSoundChange rows) (undo_changes (run_to_refusal rows d changes))
  stop_sound d [] well within sound = tt
  stop_sound d (c ∷ cs) well within sound = by (step rows d c) refl (λ e w l. stop_sound e cs w l sound.1)
    where
      by : (r : Result Dir ResultCode) → step rows d c ≡ r → ((e : Dir) → IsWellFormed rows e → IsWithinLimits e → Each (IsSoundChange rows) (undo_changes (run_to_refusal rows e cs))) →
          Each (IsSoundChange rows) (undo_changes (accepted_or r (λ e. with_group_first (group_of rows d e c) (run_to_refusal rows e cs)) (record { end = d; groups = [] })))
      by (Ok e) t rest = more_sound (group_of rows d e c) (run_to_refusal rows e cs) (group_sound rows d c well within sound.0 e t) (rest e (step_keeps rows d c well sound.0 e t) (step_within rows d c within sound.0 e t))
      by (Err code) t rest = tt

pub texts_read_back : MarkedGroupsReadBack → UndoTextsReadBack
texts_read_back law rows d changes well within sound =
    (read_back rows law (run_to_end rows d changes) (on_sound rows d changes well within sound), read_back rows law (run_to_refusal rows d changes) (stop_sound rows d changes well within sound))
