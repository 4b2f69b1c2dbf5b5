-- A run over sound records accepts sound changes, and the group of each is an undo of it.
use Rattle.std.proofs.Common.{◌≡◌, ℕ, Bool, true, false, cond, List, [], ◌∷◌, Result, Ok, Err, refl, sym, ap, subst, ◌∙◌}
use Rattle.dir_names.specs.declared.schema.TypeRow.{TypeRow}
use Rattle.dir_ldif.specs.declared.faults.RecordFault.{RecordFault}
use Rattle.dir_ldif.specs.declared.faults.StreamFault.{StreamFault}
use Rattle.dir_ldif.specs.declared.records.Change.{Change}
use Rattle.dir_ldif.specs.declared.records.Record.{Record}
use Rattle.dir_ldif.specs.declared.records.Record.TheVariants as form
use Rattle.dir_ldif.specs.SoundRecords.{IsSoundFound}
use Rattle.dir_tree.specs.Dir.{Dir}
use Rattle.dir_tree.specs.WellFormed.{Each, IsWellFormed, IsWithinLimits}
use Rattle.dir_change.specs.declared.result_code.ResultCode.{ResultCode}
use Rattle.dir_change.specs.Operation.{step}
use Rattle.dir_change.specs.Runs.{Ending, GroupsUndo, RunsStayInOrder, StaysInOrder, group_of, run_to_end, with_group_first}
use Rattle.dir_change.specs.SoundChange.{IsSoundChange}
use Rattle.dir_tools.specs.Laws.{GroupsAreUndos, RunsAcceptChanges}
use Rattle.dir_tools.specs.RunOf.{AreUndos, HasAccepted, Outcome, RecordStep, RunEnd, ended_run, groups_in, record_step, run_of, with_outcomes_before}
use Rattle.dir_tools.proofs.RunLemmas.{accepted_none, accepted_step, goes, goes_on_step, one_further}

-- ---- the accepted changes

-- a run that begins with an accepted record
accepted_first : (rows : List TypeRow) (d e last : Dir) (os : List (ℕ × Outcome)) (line : ℕ) (found : Result Record RecordFault) (group : List Change)
    → record_step rows d found ≡ Ok (e, group) → IsSoundFound rows (line, found) → HasAccepted rows e os last → HasAccepted rows d ((line, Ok group) ∷ os) last
accepted_first rows d e last os line (Ok (form.Change change)) group is sound was =
    let took = accepted_step rows d e change (step rows d change) group is in (
      change ∷ was.0,
      (sound, was.1),
      goes_on_step rows d change was.0 (Ok e) took.0 ∙ ap (with_group_first (group_of rows d e change)) was.2 ∙ ap (λ g. record { end = last; groups = g ∷ groups_in os }) took.1,
    )
accepted_first rows d e last os line (Ok (form.Content name lines)) group is sound was = absurd (cc)
accepted_first rows d e last os line (Err fault) group is sound was = absurd (cc)

-- what holds of a run with one more outcome before the others
with_one : (P : List (ℕ × Outcome) → Dir → Type 0) (o : ℕ × Outcome) (r : Result RunEnd StreamFault) (ran : RunEnd) → with_outcomes_before (o ∷ []) r ≡ Ok ran
    → ((inner : RunEnd) → r ≡ Ok inner → P (o ∷ inner.outcomes) inner.end) → P ran.outcomes ran.end
with_one P o (Ok inner) ran is f = let same : record { end = inner.end; outcomes = o ∷ inner.outcomes } ≡ ran = cc in subst (λ (z : RunEnd). P z.outcomes z.end) same (f inner refl)
with_one P o (Err fault) ran is f = absurd (cc)

ended_there : (rows : List TypeRow) (d : Dir) (ran : RunEnd) → ended_run d ≡ Ok ran → HasAccepted rows d ran.outcomes ran.end
ended_there rows d ran is = let same : record { end = d; outcomes = [] } ≡ ran = cc in subst (λ (z : RunEnd). HasAccepted rows d z.outcomes z.end) same (accepted_none rows d)

pub runs_accept : RunsAcceptChanges
runs_accept rows go_on d [] ran sound is = ended_there rows d ran is
runs_accept rows go_on d (Err fault ∷ rest) ran sound is = absurd (cc)
runs_accept rows go_on d (Ok found ∷ rest) ran sound is = by (λ e inner. runs_accept rows go_on e rest inner sound.1) (record_step rows d found.1) refl
  where
    after_refusal : ((inner : RunEnd) → run_of rows go_on d rest ≡ Ok inner → HasAccepted rows d inner.outcomes inner.end)
        → (inner : RunEnd) (b : Bool) → cond b (run_of rows go_on d rest) (ended_run d) ≡ Ok inner → HasAccepted rows d inner.outcomes inner.end
    after_refusal later inner true h = later inner h
    after_refusal later inner false h = ended_there rows d inner h

    by : ((e : Dir) (inner : RunEnd) → run_of rows go_on e rest ≡ Ok inner → HasAccepted rows e inner.outcomes inner.end)
        → (l : RecordStep) → record_step rows d found.1 ≡ l → HasAccepted rows d ran.outcomes ran.end
    by later (Ok p) e =
        with_one (HasAccepted rows d) (found.0, Ok p.1) (run_of rows go_on p.0 rest) ran (sym (goes rows go_on d found (Ok p) rest e) ∙ is)
        (λ inner h. accepted_first rows d p.0 inner.end inner.outcomes found.0 found.1 p.1 e sound.0 (later p.0 inner h))
    by later (Err why) e =
        with_one (HasAccepted rows d) (found.0, Err why) (cond go_on (run_of rows go_on d rest) (ended_run d)) ran (sym (goes rows go_on d found (Err why) rest e) ∙ is)
        (λ inner h. after_refusal (later d) inner go_on h)

-- ---- their groups

module _ (undo : GroupsUndo) (order : RunsStayInOrder) (rows : List TypeRow) where
  abbrev EndsUndone : Dir → Ending → Type 0
  EndsUndone d n = AreUndos rows d n.groups n.end

  undos_from : (cs : List Change) (d : Dir) → IsWellFormed rows d → IsWithinLimits d → Each (IsSoundChange rows) cs → EndsUndone d (run_to_end rows d cs)
  undos_from [] d well within sound = refl
  undos_from (c ∷ cs) d well within sound = by (λ e w l. undos_from cs e w l sound.1) (step rows d c) refl
    where
      by : ((e : Dir) → IsWellFormed rows e → IsWithinLimits e → EndsUndone e (run_to_end rows e cs)) → (r : Result Dir ResultCode) → step rows d c ≡ r → EndsUndone d (run_to_end rows d (c ∷ cs))
      by later (Ok e) is =
          let stays : StaysInOrder rows d (record { end = e; groups = group_of rows d e c ∷ [] }) = subst (StaysInOrder rows d) (one_further rows d e c is) (order rows d (c ∷ []) well within (sound.0, tt)).0 in
          subst (EndsUndone d) (sym (goes_on_step rows d c cs (Ok e) is)) (c, e, sound.0, undo rows d e c well within sound.0 is, later e stays.0 stays.1)
      by later (Err code) is = subst (EndsUndone d) (sym (goes_on_step rows d c cs (Err code) is)) (later d well within)

  pub groups_undone : (d : Dir) (ran : RunEnd) → IsWellFormed rows d → IsWithinLimits d → HasAccepted rows d ran.outcomes ran.end → AreUndos rows d (groups_in ran.outcomes) ran.end
  groups_undone d ran well within was = subst (EndsUndone d) was.2 (undos_from was.0 d well within was.1)

pub undos_law : GroupsUndo → RunsStayInOrder → GroupsAreUndos
undos_law undo order rows d ran well within was = groups_undone undo order rows d ran well within was
