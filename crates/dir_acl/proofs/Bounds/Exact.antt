-- The pass over rules finds exactly what is surely held, and what may be held.
use Rattle.std.proofs.Common.{◌≡◌, ℕ, Bool, true, false, not, cond, List, [], ◌∷◌, ◌++◌, map, Option, refl, sym, ap, ◌∙◌, true≢false}
use Rattle.std.specs.Prelude.{◌||◌}
use Rattle.std.specs.List.{list_all}
use Rattle.dir_names.specs.Keys.{DnKeys}
use Rattle.dir_tree.specs.Dir.{Dir}
use Rattle.dir_acl.specs.declared.privileges.Level.TheVariants as level
use Rattle.dir_acl.specs.declared.privileges.Privilege.{Privilege}
use Rattle.dir_acl.specs.Bounds.{MayBeHeld, NumberedRule, SurelyHeld, granted_by, holds_under, numbered_rules, rule_under, what_says}
use Rattle.dir_acl.specs.Decision.{Question, is_root_for, named}
use Rattle.dir_acl.specs.Inside.Bounding.{BoundsAreExact, Parted, Runs, after_rules, all_runs, both_runs, is_possible, is_sure, passing, taking, weighed}
use Rattle.dir_acl.specs.Privileges.{has, level_set}
use Rattle.dir_acl.specs.Rules.{AccessRule}
use Rattle.dir_acl.proofs.Bounds.Choices.{Apart, AreOnce, agree_on, all_numbers, as_first, as_second, chosen, clauses_numbers, numbers_of, once_apart, once_left, once_right, rule_numbers, same_clauses, same_parts, same_rules}
use Rattle.dir_acl.proofs.Bounds.Judged.{Stand, rules_told, run_on, through_clauses, through_rules}
use Rattle.dir_acl.proofs.Bounds.Numbers.{rules_once, rules_weigh}
use Rattle.dir_acl.proofs.Bounds.Passes.{Comes, Either, HasRun, IsFrom, all_if, clauses_come, clauses_have, clauses_pass, clauses_run, first, has_run, in_either, in_first, in_second, loses_it, lost_by, passed, passes, rule_weight, second, taken, takes}

-- ---- numbers

apart_left : (xs ys ms : List ℕ) → Apart (xs ++ ys) ms → Apart xs ms
apart_left [] ys ms a = tt
apart_left (x ∷ xs) ys ms a = (a.0, apart_left xs ys ms a.1)

apart_right : (xs ys ms : List ℕ) → Apart (xs ++ ys) ms → Apart ys ms
apart_right [] ys ms a = a
apart_right (x ∷ xs) ys ms a = apart_right xs ys ms a.1

module _ (d : Dir) (q : Question) (p : Privilege) where
  abbrev rules_run : (ℕ → Bool) → List NumberedRule → Bool → Bool
  rules_run closed rules held = through_rules p (map (rule_under closed d q) rules) held

  -- the runs that take a rule, in its clauses, and those that pass it over
  abbrev in_rule : NumberedRule → Runs → Parted
  in_rule rule runs = clauses_pass d q p rule.clauses (taking (all_if (what_says q) true rule.what) runs)

  abbrev over_rule : NumberedRule → Runs → Runs
  over_rule rule runs = passing (all_if (what_says q) false rule.what) runs

  abbrev rules_pass : List NumberedRule → Runs → Runs
  rules_pass rules runs = after_rules p (map (rule_weight d q p) rules) runs

  -- ---- each run is in the pass

  rules_come : (closed : ℕ → Bool) (rules : List NumberedRule) (runs : Runs) (held : Bool) → has_run runs held ≡ true → has_run (rules_pass rules runs) (rules_run closed rules held) ≡ true
  rules_come closed [] runs held e = loses_it runs held e
  rules_come closed (rule ∷ rules) runs held e = by (rules_come closed rules) (list_all (holds_under closed (what_says q)) rule.what) refl
    where
      inside : list_all (holds_under closed (what_says q)) rule.what ≡ true → Comes d q p (in_rule rule runs) (clauses_run d q p closed rule.clauses held)
      inside fit = clauses_come d q p closed rule.clauses (taking (all_if (what_says q) true rule.what) runs) held (takes (what_says q) rule.what runs held closed fit e)

      on : ((runs : Runs) (held : Bool) → has_run runs held ≡ true → has_run (rules_pass rules runs) (rules_run closed rules held) ≡ true) → (stand : Stand) → Comes d q p (in_rule rule runs) stand
          → has_run (rules_pass (rule ∷ rules) runs) (run_on stand (rules_run closed rules)) ≡ true
      on later (true, held) h =
          in_second (in_rule rule runs).ended (rules_pass rules (both_runs (in_rule rule runs).on (over_rule rule runs))) (rules_run closed rules held)
          (later (both_runs (in_rule rule runs).on (over_rule rule runs)) held (in_first (in_rule rule runs).on (over_rule rule runs) held h))
      on later (false, held) h = in_first (in_rule rule runs).ended (rules_pass rules (both_runs (in_rule rule runs).on (over_rule rule runs))) held h

      by : ((runs : Runs) (held : Bool) → has_run runs held ≡ true → has_run (rules_pass rules runs) (rules_run closed rules held) ≡ true) → (b : Bool) → list_all (holds_under closed (what_says q)) rule.what ≡ b
          → has_run (rules_pass (rule ∷ rules) runs) (cond b (run_on (clauses_run d q p closed rule.clauses held) (rules_run closed rules)) (rules_run closed rules held)) ≡ true
      by later true w = on later (clauses_run d q p closed rule.clauses held) (inside w)
      by later false w =
          in_second (in_rule rule runs).ended (rules_pass rules (both_runs (in_rule rule runs).on (over_rule rule runs))) (rules_run closed rules held)
          (later (both_runs (in_rule rule runs).on (over_rule rule runs)) held (in_second (in_rule rule runs).on (over_rule rule runs) held (passes (what_says q) rule.what runs held closed w e)))

  -- ---- each of the pass is a run

  record HasRunOver (rules : List NumberedRule) (runs : Runs) (ended : Bool) : Type 0 where
    closed : ℕ → Bool
    held : Bool
    there : has_run runs held ≡ true
    ends : rules_run closed rules held ≡ ended

  module _ (rule : NumberedRule) (rules : List NumberedRule) (once : AreOnce (all_numbers (rule ∷ rules))) where
    abbrev whats : List ℕ
    whats = numbers_of rule.what

    abbrev bys : List ℕ
    bys = clauses_numbers rule.clauses

    abbrev rest : List ℕ
    rest = all_numbers rules

    rule_once : AreOnce (whats ++ bys)
    rule_once = once_left (whats ++ bys) rest once

    -- for the numbers of the <what> this, for those of the clauses one, and for the others another
    abbrev closed_so : Bool → (ℕ → Bool) → (ℕ → Bool) → ℕ → Bool
    closed_so b inside later = chosen whats (λ n. b) (chosen bys inside later)

    over_so : (b : Bool) (inside later : ℕ → Bool) (held : Bool)
        → rules_run (closed_so b inside later) (rule ∷ rules) held ≡ cond (all_if (what_says q) b rule.what) (run_on (clauses_run d q p inside rule.clauses held) (rules_run later rules)) (rules_run later rules held)
    over_so b inside later held =
        ap (λ a. cond a (run_on (clauses_run d q p (closed_so b inside later) rule.clauses held) (rules_run (closed_so b inside later) rules)) (rules_run (closed_so b inside later) rules held))
        (same_parts (what_says q) (closed_so b inside later) (λ n. b) rule.what (as_first whats (λ n. b) (chosen bys inside later)))
        ∙ ap (λ cs. cond (all_if (what_says q) b rule.what) (run_on (through_clauses p cs held) (rules_run (closed_so b inside later) rules)) (rules_run (closed_so b inside later) rules held))
        (same_clauses d q (closed_so b inside later) inside rule.clauses
        (agree_on (closed_so b inside later) (chosen bys inside later) inside bys (as_second whats bys (λ n. b) (chosen bys inside later) (once_apart whats bys rule_once)) (as_first bys inside later)))
        ∙ ap (λ rs. cond (all_if (what_says q) b rule.what) (run_on (clauses_run d q p inside rule.clauses held) (through_rules p rs)) (through_rules p rs held))
        (same_rules d q (closed_so b inside later) later rules
        (agree_on (closed_so b inside later) (chosen bys inside later) later rest
        (as_second whats rest (λ n. b) (chosen bys inside later) (apart_left whats bys rest (once_apart (whats ++ bys) rest once)))
        (as_second bys rest inside later (apart_right whats bys rest (once_apart (whats ++ bys) rest once)))))

    -- the rule is taken, and its clauses end so
    taken_so : (runs : Runs) (ended : Bool) (stand : Stand) (later : ℕ → Bool) → HasRun d q p rule.clauses (taking (all_if (what_says q) true rule.what) runs) stand → run_on stand (rules_run later rules) ≡ ended → HasRunOver (rule ∷ rules) runs ended
    taken_so runs ended stand later run ends =
        let so : (all_if (what_says q) true rule.what ≡ true) × (has_run runs run.held ≡ true) = taken (what_says q) rule.what runs run.held run.there in
        record {
          closed = closed_so true run.closed later;
          held = run.held;
          there = so.1;
          ends =
              over_so true run.closed later run.held
              ∙ ap (λ b. cond b (run_on (clauses_run d q p run.closed rule.clauses run.held) (rules_run later rules)) (rules_run later rules run.held)) so.0
              ∙ ap (λ s. run_on s (rules_run later rules)) run.ends
              ∙ ends;
        }

    passed_so : (runs : Runs) (ended : Bool) (later : ℕ → Bool) (held : Bool) → has_run (over_rule rule runs) held ≡ true → rules_run later rules held ≡ ended → HasRunOver (rule ∷ rules) runs ended
    passed_so runs ended later held e ends =
        let so : (all_if (what_says q) false rule.what ≡ false) × (has_run runs held ≡ true) = passed (what_says q) rule.what runs held e in
        record {
          closed = closed_so false later later;
          held = held;
          there = so.1;
          ends =
              over_so false later later held
              ∙ ap (λ b. cond b (run_on (clauses_run d q p later rule.clauses held) (rules_run later rules)) (rules_run later rules held)) so.0
              ∙ ends;
        }

    bys_once : AreOnce bys
    bys_once = once_right whats bys rule_once

    ended_so : (runs : Runs) (ended : Bool) → has_run (in_rule rule runs).ended ended ≡ true → HasRunOver (rule ∷ rules) runs ended
    ended_so runs ended e = taken_so runs ended (false, ended) (λ n. true) (clauses_have d q p rule.clauses bys_once (taking (all_if (what_says q) true rule.what) runs) (false, ended) e) refl

    later_so : (runs : Runs) (ended : Bool) → HasRunOver rules (both_runs (in_rule rule runs).on (over_rule rule runs)) ended → HasRunOver (rule ∷ rules) runs ended
    later_so runs ended run = by (in_either (in_rule rule runs).on (over_rule rule runs) run.held run.there)
      where
        by : Either (has_run (in_rule rule runs).on run.held ≡ true) (has_run (over_rule rule runs) run.held ≡ true) → HasRunOver (rule ∷ rules) runs ended
        by (first t) = taken_so runs ended (true, run.held) run.closed (clauses_have d q p rule.clauses bys_once (taking (all_if (what_says q) true rule.what) runs) (true, run.held) t) run.ends
        by (second g) = passed_so runs ended run.closed run.held g run.ends

  rules_have : (rules : List NumberedRule) → AreOnce (all_numbers rules) → (runs : Runs) (ended : Bool) → has_run (rules_pass rules runs) ended ≡ true → HasRunOver rules runs ended
  rules_have [] once runs ended e = by (lost_by runs ended e)
    where
      by : IsFrom runs (λ _. false ≡ ended) → HasRunOver [] runs ended
      by from = record { closed = λ n. true; held = from.held; there = from.there; ends = from.comes }
  rules_have (rule ∷ rules) once runs ended e =
      by (λ run. later_so rule rules once runs ended (rules_have rules (once_right (rule_numbers rule) (all_numbers rules) once) (both_runs (in_rule rule runs).on (over_rule rule runs)) ended run))
      (in_either (in_rule rule runs).ended (rules_pass rules (both_runs (in_rule rule runs).on (over_rule rule runs))) ended e)
    where
      by : (has_run (rules_pass rules (both_runs (in_rule rule runs).on (over_rule rule runs))) ended ≡ true → HasRunOver (rule ∷ rules) runs ended)
          → Either (has_run (in_rule rule runs).ended ended ≡ true) (has_run (rules_pass rules (both_runs (in_rule rule runs).on (over_rule rule runs))) ended ≡ true) → HasRunOver (rule ∷ rules) runs ended
      by later (first t) = ended_so rule rules once runs ended t
      by later (second g) = later g

  -- ---- what is granted

  abbrev granted : (ℕ → Bool) → List NumberedRule → Bool
  granted closed rules = granted_by (map (rule_under closed d q) rules) p

  has_either : (b : Bool) → has_run (record { held = b; lacking = not b }) b ≡ true
  has_either true = refl
  has_either false = refl

  all_come : (closed : ℕ → Bool) (rules : List NumberedRule) → has_run (all_runs p (map (rule_weight d q p) rules)) (granted closed rules) ≡ true
  all_come closed [] = has_either (has (level_set level.Read) p)
  all_come closed (rule ∷ rules) =
      ap (has_run (rules_pass (rule ∷ rules) (record { held = false; lacking = true }))) (rules_told p (map (rule_under closed d q) (rule ∷ rules)) false)
      ∙ rules_come closed (rule ∷ rules) (record { held = false; lacking = true }) false refl

  record IsSome (rules : List NumberedRule) (ended : Bool) : Type 0 where
    closed : ℕ → Bool
    ends : granted closed rules ≡ ended

  some_only : (b ended : Bool) → has_run (record { held = b; lacking = not b }) ended ≡ true → b ≡ ended
  some_only true true e = refl
  some_only false false e = refl
  some_only true false e = absurd (true≢false (sym e))
  some_only false true e = absurd (true≢false (sym e))

  all_have : (rules : List NumberedRule) → AreOnce (all_numbers rules) → (ended : Bool) → has_run (all_runs p (map (rule_weight d q p) rules)) ended ≡ true → IsSome rules ended
  all_have [] once ended e = record { closed = λ n. true; ends = some_only (has (level_set level.Read) p) ended e }
  all_have (rule ∷ rules) once ended e = by (rules_have (rule ∷ rules) once (record { held = false; lacking = true }) ended e)
    where
      from_none : (run : HasRunOver (rule ∷ rules) (record { held = false; lacking = true }) ended) (held : Bool) → held ≡ run.held → has_run (record { held = false; lacking = true }) held ≡ true → false ≡ run.held
      from_none run false same t = same
      from_none run true same t = absurd (true≢false (sym t))

      by : HasRunOver (rule ∷ rules) (record { held = false; lacking = true }) ended → IsSome (rule ∷ rules) ended
      by run = record {
        closed = run.closed;
        ends =
            rules_told p (map (rule_under run.closed d q) (rule ∷ rules)) false
            ∙ ap (through_rules p (map (rule_under run.closed d q) (rule ∷ rules))) (from_none run run.held refl run.there)
            ∙ run.ends;
      }

module _ (d : Dir) (root : Option DnKeys) (rules : List AccessRule) (q : Question) (p : Privilege) where
  abbrev runs : Runs
  runs = all_runs p (map (weighed d q) rules)

  abbrev granted_so : (ℕ → Bool) → Bool
  granted_so closed = granted_by (map (rule_under closed d q) (numbered_rules 0 rules)) p

  come : (closed : ℕ → Bool) → has_run runs (granted_so closed) ≡ true
  come closed = ap (λ weights. has_run (all_runs p weights) (granted_so closed)) (sym (rules_weigh d q p 0 rules)) ∙ all_come d q p closed (numbered_rules 0 rules)

  have : (ended : Bool) → has_run runs ended ≡ true → IsSome d q p (numbered_rules 0 rules) ended
  have ended e = all_have d q p (numbered_rules 0 rules) (rules_once 0 rules) ended (ap (λ weights. has_run (all_runs p weights) ended) (rules_weigh d q p 0 rules) ∙ e)

  lacks_none : (b : Bool) (granted : Bool) → (b || not runs.lacking) ≡ true → has_run runs granted ≡ true → (b || granted) ≡ true
  lacks_none true granted s e = refl
  lacks_none false true s e = refl
  lacks_none false false s e = absurd (both runs.lacking s e)
    where
      both : (l : Bool) → not l ≡ true → l ≡ true → ⊥
      both true s e = true≢false (sym s)
      both false s e = true≢false (sym e)

  sure : is_sure d root rules q p ≡ true → SurelyHeld d root rules q p
  sure s closed = lacks_none (is_root_for root (named q.requester)) (granted_so closed) s (come closed)

  all_sure : SurelyHeld d root rules q p → is_sure d root rules q p ≡ true
  all_sure always = by (is_root_for root (named q.requester)) runs.lacking refl always
    where
      by : (b l : Bool) → runs.lacking ≡ l → ((closed : ℕ → Bool) → (b || granted_so closed) ≡ true) → (b || not l) ≡ true
      by true l w a = refl
      by false false w a = refl
      by false true w a = let some : IsSome d q p (numbered_rules 0 rules) false = have false w in absurd (true≢false (sym (a some.closed) ∙ some.ends))

  possible : is_possible d root rules q p ≡ true → MayBeHeld d root rules q p
  possible m = by (is_root_for root (named q.requester)) m
    where
      by : (b : Bool) → (b || runs.held) ≡ true → (closed : ℕ → Bool) × ((b || granted_so closed) ≡ true)
      by true m = ((λ n. true), refl)
      by false m = let some : IsSome d q p (numbered_rules 0 rules) true = have true m in (some.closed, some.ends)

  all_possible : MayBeHeld d root rules q p → is_possible d root rules q p ≡ true
  all_possible (closed, e) = by (is_root_for root (named q.requester)) (granted_so closed) refl e
    where
      by : (b g : Bool) → granted_so closed ≡ g → (b || g) ≡ true → (b || runs.held) ≡ true
      by true g w e = refl
      by false true w e = sym (ap (has_run runs) w) ∙ come closed
      by false false w e = absurd (true≢false (sym e))

pub bounds_exact : BoundsAreExact
bounds_exact d root rules q p = record { sure = sure d root rules q p; all_sure = all_sure d root rules q p; possible = possible d root rules q p; all_possible = all_possible d root rules q p }
