-- The pass that finds what may be held and what may not (specs/Bounds.antt), for one privilege.
use Rattle.std.specs.Prelude.{◌≡◌, Bool, true, false, ◌||◌, cond, not, List, [], ◌∷◌, map, Option, None, Some}
use Rattle.std.specs.List.{list_all}
use Rattle.dir_names.specs.Keys.{DnKeys}
use Rattle.dir_tree.specs.Dir.{Dir}
use Rattle.dir_acl.specs.declared.access.Control.{Control}
use Rattle.dir_acl.specs.declared.access.Control.TheVariants.{Stop, Continue, Break}
use Rattle.dir_acl.specs.declared.access.Edit.{Edit}
use Rattle.dir_acl.specs.declared.open_rules.Verdict.{Verdict}
use Rattle.dir_acl.specs.declared.privileges.Level.TheVariants as level
use Rattle.dir_acl.specs.declared.privileges.Privilege.{Privilege}
use Rattle.dir_acl.specs.Bounds.{MayBeHeld, SurelyHeld, settled, what_says, who_says, with_write}
use Rattle.dir_acl.specs.Decision.{Question, is_root_for, named, says}
use Rattle.dir_acl.specs.Notes.Halves.{takes_half}
use Rattle.dir_acl.specs.Privileges.{has, level_set}
use Rattle.dir_acl.specs.Rules.{AccessClause, AccessRule}

-- whether runs come to a place with the privilege held, and whether some come without it
pub record Runs : Type 0 where
  pub held : Bool
  pub lacking : Bool

abbrev pub no_runs : Runs
no_runs = record { held = false; lacking = false }

abbrev pub both_runs : Runs → Runs → Runs
both_runs a b = record { held = a.held || b.held; lacking = a.lacking || b.lacking }

-- all runs lose the privilege
abbrev pub without_it : Runs → Runs
without_it runs = record { held = false; lacking = runs.held || runs.lacking }

-- what an edit says of the privilege
abbrev pub told_runs : Option Bool → Runs → Runs
told_runs None runs = runs
told_runs (Some true) runs = record { held = runs.held || runs.lacking; lacking = false }
told_runs (Some false) runs = without_it runs

-- one that takes one of `a` and `z` alone says either
abbrev pub edited_runs : Edit → Privilege → Runs → Runs
edited_runs e p runs = cond (takes_half e) (both_runs (told_runs (says e p) runs) (told_runs (says (with_write e) p) runs)) (told_runs (says e p) runs)

-- ---- what is known of a rule and its clauses for the question: whether all parts may hold, and whether they must

pub record WeighedClause : Type 0 where
  pub may : Bool
  pub must : Bool
  pub edit : Edit
  pub control : Control

pub record WeighedRule : Type 0 where
  pub may : Bool
  pub must : Bool
  pub clauses : List WeighedClause

abbrev pub may_hold : {A : Type 0} → (A → Verdict) → A → Bool
may_hold says part = settled true (says part)

abbrev pub must_hold : {A : Type 0} → (A → Verdict) → A → Bool
must_hold says part = settled false (says part)

abbrev pub weighed_clause : Dir → Question → AccessClause → WeighedClause
weighed_clause d q clause = record {
  may = list_all (may_hold (who_says d q)) clause.who;
  must = list_all (must_hold (who_says d q)) clause.who;
  edit = clause.edit;
  control = clause.control;
}

abbrev pub weighed : Dir → Question → AccessRule → WeighedRule
weighed d q rule = record {
  may = list_all (may_hold (what_says q)) rule.what;
  must = list_all (must_hold (what_says q)) rule.what;
  clauses = map (weighed_clause d q) rule.clauses;
}

-- the runs that take it, and those that pass it over
abbrev pub taking : Bool → Runs → Runs
taking may runs = cond may runs no_runs

abbrev pub passing : Bool → Runs → Runs
passing must runs = cond must no_runs runs

-- ---- clauses

-- the runs that go on with the later rules, and those that have ended
pub record Parted : Type 0 where
  pub on : Runs
  pub ended : Runs

abbrev pub both_parted : Parted → Parted → Parted
both_parted a b = record { on = both_runs a.on b.on; ended = both_runs a.ended b.ended }

-- the runs that take a clause with this control, and those that pass it over, for which the later clauses are gone through
abbrev pub by_control : Control → Runs → Runs → (Runs → Parted) → Parted
by_control Stop taken passed later = both_parted (record { on = no_runs; ended = taken }) (later passed)
by_control Break taken passed later = both_parted (record { on = taken; ended = no_runs }) (later passed)
by_control Continue taken passed later = later (both_runs taken passed)

module _ (p : Privilege) where
  abbrev pub after_clauses : List WeighedClause → Runs → Parted
  after_clauses [] runs = record { on = no_runs; ended = without_it runs }
  after_clauses (clause ∷ clauses) runs = by_control clause.control (edited_runs clause.edit p (taking clause.may runs)) (passing clause.must runs) (after_clauses clauses)

  -- ---- rules

  abbrev pub after_rules : List WeighedRule → Runs → Runs
  after_rules [] runs = without_it runs
  after_rules (rule ∷ rules) runs =
      both_runs (after_clauses rule.clauses (taking rule.may runs)).ended
      (after_rules rules (both_runs (after_clauses rule.clauses (taking rule.may runs)).on (passing rule.must runs)))

  -- without any rule the policy is `access to * by * read`
  abbrev pub all_runs : List WeighedRule → Runs
  all_runs [] = record { held = has (level_set level.Read) p; lacking = not (has (level_set level.Read) p) }
  all_runs (rule ∷ rules) = after_rules (rule ∷ rules) (record { held = false; lacking = true })

-- ---- the whole: the privilege is held by some run, and lacking in none

abbrev pub is_possible : Dir → Option DnKeys → List AccessRule → Question → Privilege → Bool
is_possible d root rules q p = is_root_for root (named q.requester) || (all_runs p (map (weighed d q) rules)).held

abbrev pub is_sure : Dir → Option DnKeys → List AccessRule → Question → Privilege → Bool
is_sure d root rules q p = is_root_for root (named q.requester) || not (all_runs p (map (weighed d q) rules)).lacking

-- a law: the pass finds exactly what is surely held, and what may be held
pub record IsExact (d : Dir) (root : Option DnKeys) (rules : List AccessRule) (q : Question) (p : Privilege) : Type 0 where
  pub sure : is_sure d root rules q p ≡ true → SurelyHeld d root rules q p
  pub all_sure : SurelyHeld d root rules q p → is_sure d root rules q p ≡ true
  pub possible : is_possible d root rules q p ≡ true → MayBeHeld d root rules q p
  pub all_possible : MayBeHeld d root rules q p → is_possible d root rules q p ≡ true

abbrev pub BoundsAreExact : Type 0
BoundsAreExact = (d : Dir) (root : Option DnKeys) (rules : List AccessRule) (q : Question) (p : Privilege) → IsExact d root rules q p
