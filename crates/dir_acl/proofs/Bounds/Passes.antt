-- The pass over the clauses of a rule: it has each run, and no other.
use Rattle.std.proofs.Common.{◌≡◌, ℕ, Bool, true, false, cond, List, [], ◌∷◌, map, Option, Some, None, refl, sym, ap, ◌∙◌, true≢false}
use Rattle.std.specs.Prelude.{◌&&◌, ◌||◌, ◌==◌, not, unwrap_or}
use Rattle.std.specs.List.{list_all}
use Rattle.dir_names.proofs.Both.{left, right}
use Rattle.dir_tree.specs.Dir.{Dir}
use Rattle.dir_acl.specs.declared.access.Control.{Control}
use Rattle.dir_acl.specs.declared.access.Control.TheVariants.{Stop, Continue, Break}
use Rattle.dir_acl.specs.declared.access.Edit.{Edit}
use Rattle.dir_acl.specs.declared.open_rules.Verdict.{Verdict}
use Rattle.dir_acl.specs.declared.open_rules.Verdict.TheVariants.{Holds, Fails, Open}
use Rattle.dir_acl.specs.declared.privileges.Privilege.{Privilege}
use Rattle.dir_acl.specs.Bounds.{Numbered, NumberedClause, NumberedRule, clause_under, edit_under, holds_under, settled, what_says, who_says, with_write}
use Rattle.dir_acl.specs.Decision.{Question, says}
use Rattle.dir_acl.specs.Inside.Bounding.{Parted, Runs, WeighedClause, WeighedRule, after_clauses, both_parted, both_runs, by_control, edited_runs, no_runs, passing, taking, told_runs, without_it}
use Rattle.dir_acl.specs.Notes.Halves.{takes_half}
use Rattle.dir_acl.proofs.Bounds.Choices.{Agree, AreOnce, agree_on, all_left, all_right, as_first, as_second, chosen, clause_numbers, clauses_numbers, numbers_of, once_apart, once_right, same_clauses, same_parts}
use Rattle.dir_acl.proofs.Bounds.Judged.{Stand, stand_after, through_clauses}

-- some run comes here with the privilege, or without it
abbrev pub has_run : Runs → Bool → Bool
has_run runs true = runs.held
has_run runs false = runs.lacking

abbrev pub parted_at : Parted → Bool → Runs
parted_at parted true = parted.on
parted_at parted false = parted.ended

-- a run from which one comes
pub record IsFrom (runs : Runs) (Comes : Bool → Type 0) : Type 0 where
  pub held : Bool
  pub there : has_run runs held ≡ true
  pub comes : Comes held

-- ---- truth values

pub or_left : (a b : Bool) → a ≡ true → (a || b) ≡ true
or_left true b e = refl
or_left false b e = absurd (true≢false (sym e))

pub or_right : (a b : Bool) → b ≡ true → (a || b) ≡ true
or_right true b e = refl
or_right false b e = e

pub data Either (A B : Type 0) : Type 0 where
  first : A → Either A B
  second : B → Either A B

pub or_either : (a b : Bool) → (a || b) ≡ true → Either (a ≡ true) (b ≡ true)
or_either true b e = first refl
or_either false b e = second e

-- ---- runs

both_has : (a b : Runs) (held : Bool) → has_run (both_runs a b) held ≡ (has_run a held || has_run b held)
both_has a b true = refl
both_has a b false = refl

pub in_first : (a b : Runs) (held : Bool) → has_run a held ≡ true → has_run (both_runs a b) held ≡ true
in_first a b held e = both_has a b held ∙ or_left (has_run a held) (has_run b held) e

pub in_second : (a b : Runs) (held : Bool) → has_run b held ≡ true → has_run (both_runs a b) held ≡ true
in_second a b held e = both_has a b held ∙ or_right (has_run a held) (has_run b held) e

pub in_either : (a b : Runs) (held : Bool) → has_run (both_runs a b) held ≡ true → Either (has_run a held ≡ true) (has_run b held ≡ true)
in_either a b held e = or_either (has_run a held) (has_run b held) (sym (both_has a b held) ∙ e)

pub none_there : {A : Type 0} (held : Bool) → has_run no_runs held ≡ true → A
none_there true e = absurd (true≢false (sym e))
none_there false e = absurd (true≢false (sym e))

parted_both : (a b : Parted) (on : Bool) → parted_at (both_parted a b) on ≡ both_runs (parted_at a on) (parted_at b on)
parted_both a b true = refl
parted_both a b false = refl

pub loses_it : (runs : Runs) (held : Bool) → has_run runs held ≡ true → has_run (without_it runs) false ≡ true
loses_it runs true e = or_left runs.held runs.lacking e
loses_it runs false e = or_right runs.held runs.lacking e

pub lost_by : (runs : Runs) (held : Bool) → has_run (without_it runs) held ≡ true → IsFrom runs (λ _. false ≡ held)
lost_by runs true e = absurd (true≢false (sym e))
lost_by runs false e = by (or_either runs.held runs.lacking e)
  where
    by : Either (runs.held ≡ true) (runs.lacking ≡ true) → IsFrom runs (λ _. false ≡ false)
    by (first h) = record { held = true; there = h; comes = refl }
    by (second h) = record { held = false; there = h; comes = refl }

told_comes : (said : Option Bool) (runs : Runs) (held : Bool) → has_run runs held ≡ true → has_run (told_runs said runs) (unwrap_or said held) ≡ true
told_comes None runs held e = e
told_comes (Some true) runs true e = or_left runs.held runs.lacking e
told_comes (Some true) runs false e = or_right runs.held runs.lacking e
told_comes (Some false) runs held e = loses_it runs held e

told_by : (said : Option Bool) (runs : Runs) (held : Bool) → has_run (told_runs said runs) held ≡ true → IsFrom runs (λ before. unwrap_or said before ≡ held)
told_by None runs held e = record { held = held; there = e; comes = refl }
told_by (Some true) runs false e = absurd (true≢false (sym e))
told_by (Some true) runs true e = by (or_either runs.held runs.lacking e)
  where
    by : Either (runs.held ≡ true) (runs.lacking ≡ true) → IsFrom runs (λ _. true ≡ true)
    by (first h) = record { held = true; there = h; comes = refl }
    by (second h) = record { held = false; there = h; comes = refl }
told_by (Some false) runs held e = lost_by runs held e

-- ---- edits

-- an edit that may take the other one of `a` and `z` too says either, and `half` tells whether it is one
module _ (p : Privilege) (e : Edit) (runs : Runs) where
  abbrev edited_if : Bool → Runs
  edited_if half = cond half (both_runs (told_runs (says e p) runs) (told_runs (says (with_write e) p) runs)) (told_runs (says e p) runs)

  abbrev told_if : Bool → Bool → Bool → Bool
  told_if half b held = unwrap_or (says (cond (half && b) (with_write e) e) p) held

  record IsEditedFrom (half after : Bool) : Type 0 where
    b : Bool
    held : Bool
    there : has_run runs held ≡ true
    comes : told_if half b held ≡ after

  edited_comes : (half b held : Bool) → has_run runs held ≡ true → has_run (edited_if half) (told_if half b held) ≡ true
  edited_comes false b held r = told_comes (says e p) runs held r
  edited_comes true false held r = in_first (told_runs (says e p) runs) (told_runs (says (with_write e) p) runs) (unwrap_or (says e p) held) (told_comes (says e p) runs held r)
  edited_comes true true held r = in_second (told_runs (says e p) runs) (told_runs (says (with_write e) p) runs) (unwrap_or (says (with_write e) p) held) (told_comes (says (with_write e) p) runs held r)

  edited_by : (half after : Bool) → has_run (edited_if half) after ≡ true → IsEditedFrom half after
  edited_by false after r = by (told_by (says e p) runs after r)
    where
      by : IsFrom runs (λ before. unwrap_or (says e p) before ≡ after) → IsEditedFrom false after
      by from = record { b = false; held = from.held; there = from.there; comes = from.comes }
  edited_by true after r = choose (in_either (told_runs (says e p) runs) (told_runs (says (with_write e) p) runs) after r)
    where
      as_said : IsFrom runs (λ before. unwrap_or (says e p) before ≡ after) → IsEditedFrom true after
      as_said from = record { b = false; held = from.held; there = from.there; comes = from.comes }

      with_both : IsFrom runs (λ before. unwrap_or (says (with_write e) p) before ≡ after) → IsEditedFrom true after
      with_both from = record { b = true; held = from.held; there = from.there; comes = from.comes }

      choose : Either (has_run (told_runs (says e p) runs) after ≡ true) (has_run (told_runs (says (with_write e) p) runs) after ≡ true) → IsEditedFrom true after
      choose (first h) = as_said (told_by (says e p) runs after h)
      choose (second h) = with_both (told_by (says (with_write e) p) runs after h)

-- ---- parts

if_open : (b : Bool) (v : Verdict) → settled b v ≡ true → settled true v ≡ true
if_open b Holds e = refl
if_open b Fails e = e
if_open b Open e = refl

if_not : (b : Bool) (v : Verdict) → settled false v ≡ true → settled b v ≡ true
if_not b Holds e = refl
if_not b Fails e = e
if_not b Open e = absurd (true≢false (sym e))

module _ {A : Type 0} (says : A → Verdict) where
  -- all of them under one truth value for each number
  abbrev pub all_if : Bool → List (Numbered A) → Bool
  all_if b parts = list_all (λ part. settled b (says part.part)) parts

  may_if_some : (closed : ℕ → Bool) (parts : List (Numbered A)) → list_all (holds_under closed says) parts ≡ true → all_if true parts ≡ true
  may_if_some closed [] e = refl
  may_if_some closed (part ∷ parts) e = λ i.
      if_open (closed part.number) (says part.part) (left (holds_under closed says part) (list_all (holds_under closed says) parts) e) i
      && may_if_some closed parts (right (holds_under closed says part) (list_all (holds_under closed says) parts) e) i

  some_if_must : (closed : ℕ → Bool) (parts : List (Numbered A)) → all_if false parts ≡ true → list_all (holds_under closed says) parts ≡ true
  some_if_must closed [] e = refl
  some_if_must closed (part ∷ parts) e = λ i.
      if_not (closed part.number) (says part.part) (left (settled false (says part.part)) (all_if false parts) e) i
      && some_if_must closed parts (right (settled false (says part.part)) (all_if false parts) e) i

  module _ (parts : List (Numbered A)) (runs : Runs) (held : Bool) where
    pub takes : (closed : ℕ → Bool) → list_all (holds_under closed says) parts ≡ true → has_run runs held ≡ true → has_run (taking (all_if true parts) runs) held ≡ true
    takes closed fit e = ap (λ b. has_run (cond b runs no_runs) held) (may_if_some closed parts fit) ∙ e

    pub passes : (closed : ℕ → Bool) → list_all (holds_under closed says) parts ≡ false → has_run runs held ≡ true → has_run (passing (all_if false parts) runs) held ≡ true
    passes closed unfit e = by (all_if false parts) refl
      where
        by : (b : Bool) → all_if false parts ≡ b → has_run (cond b no_runs runs) held ≡ true
        by true w = absurd (true≢false (sym (some_if_must closed parts w) ∙ unfit))
        by false w = e

    pub taken : has_run (taking (all_if true parts) runs) held ≡ true → (all_if true parts ≡ true) × (has_run runs held ≡ true)
    taken e = by (all_if true parts) refl e
      where
        by : (b : Bool) → all_if true parts ≡ b → has_run (cond b runs no_runs) held ≡ true → (all_if true parts ≡ true) × (has_run runs held ≡ true)
        by true w h = (w, h)
        by false w h = none_there held h

    pub passed : has_run (passing (all_if false parts) runs) held ≡ true → (all_if false parts ≡ false) × (has_run runs held ≡ true)
    passed e = by (all_if false parts) refl e
      where
        by : (b : Bool) → all_if false parts ≡ b → has_run (cond b no_runs runs) held ≡ true → (all_if false parts ≡ false) × (has_run runs held ≡ true)
        by true w h = none_there held h
        by false w h = (w, h)

-- ---- clauses

module _ (d : Dir) (q : Question) (p : Privilege) where
  abbrev pub clause_weight : NumberedClause → WeighedClause
  clause_weight clause = record { may = all_if (who_says d q) true clause.who; must = all_if (who_says d q) false clause.who; edit = clause.edit; control = clause.control }

  abbrev pub rule_weight : NumberedRule → WeighedRule
  rule_weight rule = record { may = all_if (what_says q) true rule.what; must = all_if (what_says q) false rule.what; clauses = map clause_weight rule.clauses }

  abbrev pub clauses_run : (ℕ → Bool) → List NumberedClause → Bool → Stand
  clauses_run closed clauses held = through_clauses p (map (clause_under closed d q) clauses) held

  abbrev pub clauses_pass : List NumberedClause → Runs → Parted
  clauses_pass clauses runs = after_clauses p (map clause_weight clauses) runs

  abbrev pub Comes : Parted → Stand → Type 0
  Comes parted stand = has_run (parted_at parted stand.0) stand.1 ≡ true

  -- the runs that take a clause, with what it says, and those that pass it over
  abbrev pub took : NumberedClause → Runs → Runs
  took clause runs = edited_runs clause.edit p (taking (all_if (who_says d q) true clause.who) runs)

  abbrev pub gone : NumberedClause → Runs → Runs
  gone clause runs = passing (all_if (who_says d q) false clause.who) runs

  abbrev pub stopped : Runs → Parted
  stopped runs = record { on = no_runs; ended = runs }

  abbrev pub broken : Runs → Parted
  broken runs = record { on = runs; ended = no_runs }

  to_first : (a b : Parted) (stand : Stand) → Comes a stand → Comes (both_parted a b) stand
  to_first a b stand h = ap (λ r. has_run r stand.1) (parted_both a b stand.0) ∙ in_first (parted_at a stand.0) (parted_at b stand.0) stand.1 h

  to_second : (a b : Parted) (stand : Stand) → Comes b stand → Comes (both_parted a b) stand
  to_second a b stand h = ap (λ r. has_run r stand.1) (parted_both a b stand.0) ∙ in_second (parted_at a stand.0) (parted_at b stand.0) stand.1 h

  abbrev pub told : Bool → NumberedClause → Bool → Bool
  told b clause held = unwrap_or (says (edit_under b clause.edit) p) held

  -- each run is in the pass
  pub clauses_come : (closed : ℕ → Bool) (clauses : List NumberedClause) (runs : Runs) (held : Bool) → has_run runs held ≡ true → Comes (clauses_pass clauses runs) (clauses_run closed clauses held)
  clauses_come closed [] runs held e = loses_it runs held e
  clauses_come closed (clause ∷ clauses) runs held e = by (clauses_come closed clauses) clause.control (list_all (holds_under closed (who_says d q)) clause.who) refl
    where
      comes : list_all (holds_under closed (who_says d q)) clause.who ≡ true → has_run (took clause runs) (told (closed clause.number) clause held) ≡ true
      comes fit = edited_comes p clause.edit (taking (all_if (who_says d q) true clause.who) runs) (takes_half clause.edit) (closed clause.number) held (takes (who_says d q) clause.who runs held closed fit e)

      goes : list_all (holds_under closed (who_says d q)) clause.who ≡ false → has_run (gone clause runs) held ≡ true
      goes unfit = passes (who_says d q) clause.who runs held closed unfit e

      by : ((runs : Runs) (held : Bool) → has_run runs held ≡ true → Comes (clauses_pass clauses runs) (clauses_run closed clauses held)) → (c : Control) (b : Bool) → list_all (holds_under closed (who_says d q)) clause.who ≡ b
          → Comes (by_control c (took clause runs) (gone clause runs) (clauses_pass clauses)) (cond b (stand_after c (told (closed clause.number) clause held) (clauses_run closed clauses)) (clauses_run closed clauses held))
      by later Stop true w = to_first (stopped (took clause runs)) (clauses_pass clauses (gone clause runs)) (false, told (closed clause.number) clause held) (comes w)
      by later Break true w = to_first (broken (took clause runs)) (clauses_pass clauses (gone clause runs)) (true, told (closed clause.number) clause held) (comes w)
      by later Continue true w = later (both_runs (took clause runs) (gone clause runs)) (told (closed clause.number) clause held) (in_first (took clause runs) (gone clause runs) (told (closed clause.number) clause held) (comes w))
      by later Stop false w = to_second (stopped (took clause runs)) (clauses_pass clauses (gone clause runs)) (clauses_run closed clauses held) (later (gone clause runs) held (goes w))
      by later Break false w = to_second (broken (took clause runs)) (clauses_pass clauses (gone clause runs)) (clauses_run closed clauses held) (later (gone clause runs) held (goes w))
      by later Continue false w = later (both_runs (took clause runs) (gone clause runs)) held (in_second (took clause runs) (gone clause runs) held (goes w))

  -- ---- each of the pass is a run

  -- an assignment with a run over these clauses that ends so
  pub record HasRun (clauses : List NumberedClause) (runs : Runs) (stand : Stand) : Type 0 where
    pub closed : ℕ → Bool
    pub held : Bool
    pub there : has_run runs held ≡ true
    pub ends : clauses_run closed clauses held ≡ stand

  -- for the number of the first clause's edit one, for those of its <who> another, and for the others as before
  abbrev first_so : Bool → Bool → NumberedClause → (ℕ → Bool) → ℕ → Bool
  first_so e b clause closed = chosen (clause.number ∷ []) (λ n. e) (chosen (numbers_of clause.who) (λ n. b) closed)

  module _ (clause : NumberedClause) (clauses : List NumberedClause) (once : AreOnce (clauses_numbers (clause ∷ clauses))) where
    abbrev rest : List ℕ
    rest = clauses_numbers clauses

    same_first : (e b : Bool) (closed : ℕ → Bool) → Agree (first_so e b clause closed) (λ n. b) (numbers_of clause.who)
    same_first e b closed =
        agree_on (first_so e b clause closed) (chosen (numbers_of clause.who) (λ n. b) closed) (λ n. b) (numbers_of clause.who)
        (as_second (clause.number ∷ []) (numbers_of clause.who) (λ n. e) (chosen (numbers_of clause.who) (λ n. b) closed) (all_left (λ m. not (m == clause.number)) (numbers_of clause.who) rest once.0, tt))
        (as_first (numbers_of clause.who) (λ n. b) closed)

    same_rest : (e b : Bool) (closed : ℕ → Bool) → Agree (first_so e b clause closed) closed rest
    same_rest e b closed =
        agree_on (first_so e b clause closed) (chosen (numbers_of clause.who) (λ n. b) closed) closed rest
        (as_second (clause.number ∷ []) rest (λ n. e) (chosen (numbers_of clause.who) (λ n. b) closed) (all_right (λ m. not (m == clause.number)) (numbers_of clause.who) rest once.0, tt))
        (as_second (numbers_of clause.who) rest (λ n. b) closed (once_apart (numbers_of clause.who) rest once.1))

    runs_so : (e b : Bool) (closed : ℕ → Bool) (held : Bool)
        → clauses_run (first_so e b clause closed) (clause ∷ clauses) held ≡ cond (all_if (who_says d q) b clause.who) (stand_after clause.control (told e clause held) (clauses_run closed clauses)) (clauses_run closed clauses held)
    runs_so e b closed held = λ i.
        through_clauses p
        (record {
          applies = same_parts (who_says d q) (first_so e b clause closed) (λ n. b) clause.who (same_first e b closed) i;
          edit = edit_under ((as_first (clause.number ∷ []) (λ n. e) (chosen (numbers_of clause.who) (λ n. b) closed)).0 i) clause.edit;
          control = clause.control;
        }
        ∷ same_clauses d q (first_so e b clause closed) closed clauses (same_rest e b closed) i)
        held

    -- the clause is taken, and then a run of the later ones begins with what it says
    took_first : (runs : Runs) (stand : Stand) (closed : ℕ → Bool) (after : Bool) → has_run (took clause runs) after ≡ true → stand_after clause.control after (clauses_run closed clauses) ≡ stand → HasRun (clause ∷ clauses) runs stand
    took_first runs stand closed after e ends = by (edited_by p clause.edit (taking (all_if (who_says d q) true clause.who) runs) (takes_half clause.edit) after e)
      where
        by : IsEditedFrom p clause.edit (taking (all_if (who_says d q) true clause.who) runs) (takes_half clause.edit) after → HasRun (clause ∷ clauses) runs stand
        by from =
            let so : (all_if (who_says d q) true clause.who ≡ true) × (has_run runs from.held ≡ true) = taken (who_says d q) clause.who runs from.held from.there in
            record {
              closed = first_so from.b true clause closed;
              held = from.held;
              there = so.1;
              ends =
                  runs_so from.b true closed from.held
                  ∙ ap (λ b. cond b (stand_after clause.control (told from.b clause from.held) (clauses_run closed clauses)) (clauses_run closed clauses from.held)) so.0
                  ∙ ap (λ h. stand_after clause.control h (clauses_run closed clauses)) from.comes
                  ∙ ends;
            }

    -- the clause is passed over
    passed_first : (runs : Runs) (stand : Stand) (closed : ℕ → Bool) (held : Bool) → has_run (gone clause runs) held ≡ true → clauses_run closed clauses held ≡ stand → HasRun (clause ∷ clauses) runs stand
    passed_first runs stand closed held e ends =
        let so : (all_if (who_says d q) false clause.who ≡ false) × (has_run runs held ≡ true) = passed (who_says d q) clause.who runs held e in
        record {
          closed = first_so false false clause closed;
          held = held;
          there = so.1;
          ends =
              runs_so false false closed held
              ∙ ap (λ b. cond b (stand_after clause.control (told false clause held) (clauses_run closed clauses)) (clauses_run closed clauses held)) so.0
              ∙ ends;
        }

  from_either : (a b : Parted) (stand : Stand) → Comes (both_parted a b) stand → Either (Comes a stand) (Comes b stand)
  from_either a b stand h = in_either (parted_at a stand.0) (parted_at b stand.0) stand.1 (sym (ap (λ r. has_run r stand.1) (parted_both a b stand.0)) ∙ h)

  from_stopped : {X : Type 0} (runs : Runs) (stand : Stand) → Comes (stopped runs) stand → ((held : Bool) → has_run runs held ≡ true → (false, held) ≡ stand → X) → X
  from_stopped runs (true, held) h k = none_there held h
  from_stopped runs (false, held) h k = k held h refl

  from_broken : {X : Type 0} (runs : Runs) (stand : Stand) → Comes (broken runs) stand → ((held : Bool) → has_run runs held ≡ true → (true, held) ≡ stand → X) → X
  from_broken runs (false, held) h k = none_there held h
  from_broken runs (true, held) h k = k held h refl

  from_end : (runs : Runs) (stand : Stand) → Comes (stopped (without_it runs)) stand → HasRun [] runs stand
  from_end runs (true, held) h = none_there held h
  from_end runs (false, held) h = by (lost_by runs held h)
    where
      by : IsFrom runs (λ _. false ≡ held) → HasRun [] runs (false, held)
      by from = record { closed = λ n. true; held = from.held; there = from.there; ends = ap (λ h. (false, h)) from.comes }

  pub clauses_have : (clauses : List NumberedClause) → AreOnce (clauses_numbers clauses) → (runs : Runs) (stand : Stand) → Comes (clauses_pass clauses runs) stand → HasRun clauses runs stand
  clauses_have [] once runs stand h = from_end runs stand h
  clauses_have (clause ∷ clauses) once runs stand h = by (clauses_have clauses (once_right (clause_numbers clause) (clauses_numbers clauses) once)) clause.control refl h
    where
      later_passed : HasRun clauses (gone clause runs) stand → HasRun (clause ∷ clauses) runs stand
      later_passed run = passed_first clause clauses once runs stand run.closed run.held run.there run.ends

      later_both : (Continue ≡ clause.control) → HasRun clauses (both_runs (took clause runs) (gone clause runs)) stand → HasRun (clause ∷ clauses) runs stand
      later_both is run = choose (in_either (took clause runs) (gone clause runs) run.held run.there)
        where
          choose : Either (has_run (took clause runs) run.held ≡ true) (has_run (gone clause runs) run.held ≡ true) → HasRun (clause ∷ clauses) runs stand
          choose (first t) = took_first clause clauses once runs stand run.closed run.held t (ap (λ c. stand_after c run.held (clauses_run run.closed clauses)) (sym is) ∙ run.ends)
          choose (second g) = passed_first clause clauses once runs stand run.closed run.held g run.ends

      by : ((runs : Runs) (stand : Stand) → Comes (clauses_pass clauses runs) stand → HasRun clauses runs stand) → (c : Control) → c ≡ clause.control
          → Comes (by_control c (took clause runs) (gone clause runs) (clauses_pass clauses)) stand → HasRun (clause ∷ clauses) runs stand
      by later Stop is h = choose (from_either (stopped (took clause runs)) (clauses_pass clauses (gone clause runs)) stand h)
        where
          choose : Either (Comes (stopped (took clause runs)) stand) (Comes (clauses_pass clauses (gone clause runs)) stand) → HasRun (clause ∷ clauses) runs stand
          choose (first t) = from_stopped (took clause runs) stand t (λ held e same. took_first clause clauses once runs stand (λ n. true) held e (ap (λ c. stand_after c held (clauses_run (λ n. true) clauses)) (sym is) ∙ same))
          choose (second g) = later_passed (later (gone clause runs) stand g)
      by later Break is h = choose (from_either (broken (took clause runs)) (clauses_pass clauses (gone clause runs)) stand h)
        where
          choose : Either (Comes (broken (took clause runs)) stand) (Comes (clauses_pass clauses (gone clause runs)) stand) → HasRun (clause ∷ clauses) runs stand
          choose (first t) = from_broken (took clause runs) stand t (λ held e same. took_first clause clauses once runs stand (λ n. true) held e (ap (λ c. stand_after c held (clauses_run (λ n. true) clauses)) (sym is) ∙ same))
          choose (second g) = later_passed (later (gone clause runs) stand g)
      by later Continue is h = later_both is (later (both_runs (took clause runs) (gone clause runs)) stand h)
