-- A run is cut where it had accepted so many records, and its undo text leads back to that point.
use Rattle.std.proofs.Common.{◌≡◌, ℕ, zero, suc, ◌+◌, ◌-◌, ◌<◌, ◌≤◌, ◌^◌, Bool, true, false, cond, List, [], ◌∷◌, ◌++◌, length, take, drop, Some, Result, Ok, Err, refl, sym, ap, subst, ◌∙◌, arith, length-append}
use Rattle.std.proofs.lemmas.Grind.{flat_map-append}
use Rattle.dir_names.specs.declared.schema.TypeRow.{TypeRow}
use Rattle.dir_ldif.specs.declared.faults.StreamFault.{StreamFault}
use Rattle.dir_ldif.specs.Records.{Answer}
use Rattle.dir_ldif.specs.SoundRecords.{AreSoundAnswers}
use Rattle.dir_tree.specs.Dir.{Dir}
use Rattle.dir_tree.specs.WellFormed.{IsWellFormed, IsWithinLimits}
use Rattle.dir_tools.specs.Laws.{CameBy, LeadsBackTo, WrittenRunsGoBack}
use Rattle.dir_tools.specs.RunOf.{Outcome, RecordStep, RunEnd, ended_run, group_in, groups_in, record_step, run_of, with_outcomes_before}
use Rattle.dir_tools.proofs.AcceptedRuns.{runs_accept}
use Rattle.dir_tools.proofs.RunLemmas.{goes}

pub record Cut (rows : List TypeRow) (go_on : Bool) (d : Dir) (answers : List Answer) (ran : RunEnd) (n : ℕ) : Type 0 where
  pub taken : ℕ
  pub there : taken ≤ length answers
  pub earlier : RunEnd
  pub later : List (ℕ × Outcome)
  pub runs : run_of rows go_on d (take taken answers) ≡ Ok earlier
  pub goes_on : run_of rows go_on earlier.end (drop taken answers) ≡ Ok (record { end = ran.end; outcomes = later })
  pub outcomes : ran.outcomes ≡ earlier.outcomes ++ later
  pub accepted : length (groups_in earlier.outcomes) ≡ n

-- a run without its first outcome
unwrapped : (o : ℕ × Outcome) (r : Result RunEnd StreamFault) (ran : RunEnd) → with_outcomes_before (o ∷ []) r ≡ Ok ran → (inner : RunEnd) × (r ≡ Ok inner) × (record { end = inner.end; outcomes = o ∷ inner.outcomes } ≡ ran)
unwrapped o (Ok inner) ran h = (inner, refl, cc)
unwrapped o (Err fault) ran h = absurd (cc)

-- what a run that has ended has accepted
fewer : (d : Dir) (os : List (ℕ × Outcome)) (ran : RunEnd) (n : ℕ) → record { end = d; outcomes = os } ≡ ran → n ≤ length (groups_in ran.outcomes) → n ≤ length (groups_in os)
fewer d os ran n is few = subst (λ (r : RunEnd). n ≤ length (groups_in r.outcomes)) (sym is) few

pub cut_at : (rows : List TypeRow) (go_on : Bool) (answers : List Answer) (d : Dir) (ran : RunEnd) (n : ℕ) → run_of rows go_on d answers ≡ Ok ran → n ≤ length (groups_in ran.outcomes) → Cut rows go_on d answers ran n
cut_at rows go_on answers d ran zero runs few = record {
  taken = 0;
  there = omega arith;
  earlier = record { end = d; outcomes = [] };
  later = ran.outcomes;
  runs = refl;
  goes_on = runs;
  outcomes = refl;
  accepted = refl;
}
cut_at rows go_on [] d ran (suc n) runs few = let none : suc n ≤ 0 = fewer d [] ran (suc n) (cc) few in absurd (omega (arith, none))
cut_at rows go_on (Err fault ∷ rest) d ran (suc n) runs few = absurd (cc)
cut_at rows go_on (Ok found ∷ rest) d ran (suc n) runs few =
    by (λ e inner m h more. cut_at rows go_on rest e inner m h more) (record_step rows d found.1) refl
  where
    Later : Type 0
    Later = (e : Dir) (inner : RunEnd) (m : ℕ) → run_of rows go_on e rest ≡ Ok inner → m ≤ length (groups_in inner.outcomes) → Cut rows go_on e rest inner m

    after_refusal : Later → (why : _) → record_step rows d found.1 ≡ Err why → (inner : RunEnd) → record { end = inner.end; outcomes = (found.0, Err why) ∷ inner.outcomes } ≡ ran
        → (b : Bool) → go_on ≡ b → cond b (run_of rows go_on d rest) (ended_run d) ≡ Ok inner → Cut rows go_on d (Ok found ∷ rest) ran (suc n)
    after_refusal later why is inner same true on h =
        let c = later d inner (suc n) h (fewer inner.end ((found.0, Err why) ∷ inner.outcomes) ran (suc n) same few) in record {
          taken = suc c.taken;
          there = let there = c.there in omega (arith, there);
          earlier = record { end = c.earlier.end; outcomes = (found.0, Err why) ∷ c.earlier.outcomes };
          later = c.later;
          runs = goes rows go_on d found (Err why) (take c.taken rest) is ∙ ap (λ b. with_outcomes_before ((found.0, Err why) ∷ []) (cond b (run_of rows go_on d (take c.taken rest)) (ended_run d))) on
              ∙ ap (with_outcomes_before ((found.0, Err why) ∷ [])) c.runs;
          goes_on = c.goes_on ∙ ap (λ (r : RunEnd). Ok (record { end = r.end; outcomes = c.later })) same;
          outcomes = ap (λ (r : RunEnd). r.outcomes) (sym same) ∙ ap (λ t. (found.0, Err why) ∷ t) c.outcomes;
          accepted = c.accepted;
        }
    after_refusal later why is inner same false off h =
        let here : record { end = d; outcomes = [] } ≡ inner = cc in
        let none : suc n ≤ 0 = fewer d [] inner (suc n) here (fewer inner.end ((found.0, Err why) ∷ inner.outcomes) ran (suc n) same few) in
        absurd (omega (arith, none))

    by : Later → (l : RecordStep) → record_step rows d found.1 ≡ l → Cut rows go_on d (Ok found ∷ rest) ran (suc n)
    by later (Ok p) is =
        let u = unwrapped (found.0, Ok p.1) (run_of rows go_on p.0 rest) ran (sym (goes rows go_on d found (Ok p) rest is) ∙ runs) in
        let some : suc n ≤ suc (length (groups_in u.0.outcomes)) = fewer u.0.end ((found.0, Ok p.1) ∷ u.0.outcomes) ran (suc n) u.2 few in
        let c = later p.0 u.0 n u.1 (omega (arith, some)) in record {
          taken = suc c.taken;
          there = let there = c.there in omega (arith, there);
          earlier = record { end = c.earlier.end; outcomes = (found.0, Ok p.1) ∷ c.earlier.outcomes };
          later = c.later;
          runs = goes rows go_on d found (Ok p) (take c.taken rest) is ∙ ap (with_outcomes_before ((found.0, Ok p.1) ∷ [])) c.runs;
          goes_on = c.goes_on ∙ ap (λ (r : RunEnd). Ok (record { end = r.end; outcomes = c.later })) u.2;
          outcomes = ap (λ (r : RunEnd). r.outcomes) (sym u.2) ∙ ap (λ t. (found.0, Ok p.1) ∷ t) c.outcomes;
          accepted = ap suc c.accepted;
        }
    by later (Err why) is =
        let u = unwrapped (found.0, Err why) (cond go_on (run_of rows go_on d rest) (ended_run d)) ran (sym (goes rows go_on d found (Err why) rest is) ∙ runs) in
        after_refusal later why is u.0 u.2 go_on refl u.1

-- ---- sound answers

sound_first : (rows : List TypeRow) (n : ℕ) (answers : List Answer) → AreSoundAnswers rows answers → AreSoundAnswers rows (take n answers)
sound_first rows zero answers h = tt
sound_first rows (suc n) [] h = tt
sound_first rows (suc n) (a ∷ answers) h = (h.0, sound_first rows n answers h.1)

sound_rest : (rows : List TypeRow) (n : ℕ) (answers : List Answer) → AreSoundAnswers rows answers → AreSoundAnswers rows (drop n answers)
sound_rest rows zero answers h = h
sound_rest rows (suc n) [] h = tt
sound_rest rows (suc n) (a ∷ answers) h = sound_rest rows n answers h.1

-- ---- back to a point

module _ (law : WrittenRunsGoBack) (rows : List TypeRow) (go_on : Bool) (d : Dir) (answers : List Answer) (ran : RunEnd) (sound : AreSoundAnswers rows answers)
    (runs : run_of rows go_on d answers ≡ Ok ran) (well : IsWellFormed rows d) (within : IsWithinLimits d) (k : ℕ) (few : k ≤ length (groups_in ran.outcomes)) where
  pub point : Cut rows go_on d answers ran (length (groups_in ran.outcomes) - k)
  point = cut_at rows go_on answers d ran (length (groups_in ran.outcomes) - k) runs (omega arith)

  pub to_come : length (groups_in ran.outcomes) ≡ length (groups_in point.earlier.outcomes) + k
  to_come = let accepted = point.accepted in omega (arith, accepted, few)

  later_count : length (groups_in point.later) ≡ k
  later_count =
      let parts : length (groups_in ran.outcomes) ≡ length (groups_in point.earlier.outcomes) + length (groups_in point.later) =
      ap (λ os. length (groups_in os)) point.outcomes ∙ ap length (flat_map-append group_in point.earlier.outcomes point.later) ∙ length-append (groups_in point.earlier.outcomes) (groups_in point.later) in
      let whole = to_come in
      omega (arith, parts, whole)

  came_by : CameBy rows d ran point.earlier.end point.later
  came_by = record {
    before = point.earlier.outcomes;
    outcomes = point.outcomes;
    came = runs_accept rows go_on d (take point.taken answers) point.earlier (sound_first rows point.taken answers sound) point.runs;
    went_on = runs_accept rows go_on point.earlier.end (drop point.taken answers) (record { end = ran.end; outcomes = point.later }) (sound_rest rows point.taken answers sound) point.goes_on;
  }

  pub leads_back : k < 2 ^ 64 → (mode : Bool) → LeadsBackTo rows d.suffix ran mode (Some k) point.earlier.end
  leads_back fits mode =
      subst (λ n. LeadsBackTo rows d.suffix ran mode (Some n) point.earlier.end) later_count
      (law rows d ran point.earlier.end point.later well within (runs_accept rows go_on d answers ran sound runs) came_by (subst (λ n. n < 2 ^ 64) (sym later_count) fits) mode)
