-- What rules give for one privilege, once it is known which fit and which clauses apply: a run over them, clause by clause.
use Rattle.std.proofs.Common.{◌≡◌, Bool, true, false, cond, List, [], ◌∷◌, ◌++◌, map, Option, refl, sym, ap, ◌∙◌}
use Rattle.std.specs.Prelude.{◌||◌, filter, unwrap_or}
use Rattle.dir_names.specs.Keys.{DnKeys}
use Rattle.dir_tree.specs.Dir.{Dir}
use Rattle.dir_acl.specs.declared.access.Control.{Control}
use Rattle.dir_acl.specs.declared.access.Control.TheVariants.{Stop, Continue, Break}
use Rattle.dir_acl.specs.declared.access.Edit.{Edit}
use Rattle.dir_acl.specs.declared.privileges.Privilege.{Privilege}
use Rattle.dir_acl.specs.Bounds.{JudgedClause, JudgedRule, all_judged_edits, applying, clause_by, granted_by, judged, judged_clause, judged_edits}
use Rattle.dir_acl.specs.Decision.{Question, all_edits, applies, clauses_for, edits_of, edits_of_rules, ends_in_break, goes_on, is_break, is_granted, is_root_for, last_word, named, rule_fits, says}
use Rattle.dir_acl.specs.Rules.{AccessClause, AccessRule}
use Rattle.dir_acl.proofs.RunningSets.{has_none, said_before}

-- ---- a run

-- whether it goes on with the later rules, and whether it has the privilege
abbrev pub Stand : Type 0
Stand = Bool × Bool

abbrev pub stand_after : Control → Bool → (Bool → Stand) → Stand
stand_after Stop held later = (false, held)
stand_after Break held later = (true, held)
stand_after Continue held later = later held

abbrev pub run_on : Stand → (Bool → Bool) → Bool
run_on stand later = cond stand.0 (later stand.1) stand.1

module _ (p : Privilege) where
  abbrev pub through_clauses : List JudgedClause → Bool → Stand
  through_clauses [] held = (false, false)
  through_clauses (clause ∷ clauses) held =
      cond clause.applies (stand_after clause.control (unwrap_or (says clause.edit p) held) (through_clauses clauses)) (through_clauses clauses held)

  abbrev pub through_rules : List JudgedRule → Bool → Bool
  through_rules [] held = false
  through_rules (rule ∷ rules) held = cond rule.fits (run_on (through_clauses rule.clauses held) (through_rules rules)) (through_rules rules held)

  -- ---- it ends with the last word

  abbrev told : List Edit → Bool → Bool
  told es held = unwrap_or (last_word p es) held

  told_one : (e : Edit) (es : List Edit) (held : Bool) → told (e ∷ es) held ≡ told es (unwrap_or (says e p) held)
  told_one e es held = sym (said_before (last_word p es) (says e p) held)

  told_both : (xs ys : List Edit) (held : Bool) → told (xs ++ ys) held ≡ told ys (told xs held)
  told_both [] ys held = refl
  told_both (x ∷ xs) ys held = told_one x (xs ++ ys) held ∙ told_both xs ys (unwrap_or (says x p) held) ∙ ap (told ys) (sym (told_one x xs held))

  clauses_told : (clauses : List JudgedClause) (held : Bool) → told (edits_of (applying clauses)) held ≡ (through_clauses clauses held).1
  clauses_told [] held = has_none p
  clauses_told (clause ∷ clauses) held = by (clauses_told clauses) clause.applies clause.control
    where
      by : ((held : Bool) → told (edits_of (applying clauses)) held ≡ (through_clauses clauses held).1) → (b : Bool) (c : Control) → told (edits_of (map clause_by (cond b (record { applies = clause.applies; edit = clause.edit; control = c } ∷ filter (λ clause. clause.applies) clauses) (filter (λ clause. clause.applies) clauses)))) held
          ≡ (cond b (stand_after c (unwrap_or (says clause.edit p) held) (through_clauses clauses)) (through_clauses clauses held)).1
      by later false c = later held
      by later true Stop = told_one clause.edit [] held
      by later true Break = told_one clause.edit [] held
      by later true Continue = told_one clause.edit (edits_of (applying clauses)) held ∙ later (unwrap_or (says clause.edit p) held)

  clauses_end : (clauses : List JudgedClause) (held : Bool) → ends_in_break (applying clauses) ≡ (through_clauses clauses held).0
  clauses_end [] held = refl
  clauses_end (clause ∷ clauses) held = by (clauses_end clauses) clause.applies clause.control
    where
      by : ((held : Bool) → ends_in_break (applying clauses) ≡ (through_clauses clauses held).0) → (b : Bool) (c : Control) → ends_in_break (map clause_by (cond b (record { applies = clause.applies; edit = clause.edit; control = c } ∷ filter (λ clause. clause.applies) clauses) (filter (λ clause. clause.applies) clauses)))
          ≡ (cond b (stand_after c (unwrap_or (says clause.edit p) held) (through_clauses clauses)) (through_clauses clauses held)).0
      by later false c = later held
      by later true Stop = refl
      by later true Break = refl
      by later true Continue = later (unwrap_or (says clause.edit p) held)

  pub rules_told : (rules : List JudgedRule) (held : Bool) → told (judged_edits rules) held ≡ through_rules rules held
  rules_told [] held = has_none p
  rules_told (rule ∷ rules) held = by (rules_told rules) rule.fits
    where
      more : ((held : Bool) → told (judged_edits rules) held ≡ through_rules rules held) → (b : Bool) (y : Bool) → told (cond b (judged_edits rules) []) y ≡ run_on (b, y) (through_rules rules)
      more later true y = later y
      more later false y = refl

      by : ((held : Bool) → told (judged_edits rules) held ≡ through_rules rules held) → (b : Bool) → told (cond b (edits_of (applying rule.clauses) ++ cond (ends_in_break (applying rule.clauses)) (judged_edits rules) []) (judged_edits rules)) held
          ≡ cond b (run_on (through_clauses rule.clauses held) (through_rules rules)) (through_rules rules held)
      by later false = later held
      by later true =
          told_both (edits_of (applying rule.clauses)) (cond (ends_in_break (applying rule.clauses)) (judged_edits rules) []) held
          ∙ more later (ends_in_break (applying rule.clauses)) (told (edits_of (applying rule.clauses)) held)
          ∙ ap (λ b. run_on (b, told (edits_of (applying rule.clauses)) held) (through_rules rules)) (clauses_end rule.clauses held)
          ∙ ap (λ y. run_on ((through_clauses rule.clauses held).0, y) (through_rules rules)) (clauses_told rule.clauses held)

-- ---- rules without open parts grant what a decision grants

module _ (d : Dir) (q : Question) where
  same_applying : (clauses : List AccessClause) → edits_of (applying (map (judged_clause d q) clauses)) ≡ edits_of (filter (applies d q) clauses)
  same_applying [] = refl
  same_applying (clause ∷ clauses) = by (same_applying clauses) (applies d q clause)
    where
      by : edits_of (applying (map (judged_clause d q) clauses)) ≡ edits_of (filter (applies d q) clauses) → (b : Bool) → edits_of (map clause_by (cond b (judged_clause d q clause ∷ filter (λ c. c.applies) (map (judged_clause d q) clauses)) (filter (λ c. c.applies) (map (judged_clause d q) clauses)))) ≡ edits_of (cond b (clause ∷ filter (applies d q) clauses) (filter (applies d q) clauses))
      by later true = ap (λ rest. clause.edit ∷ cond (goes_on clause.control) rest []) later
      by later false = later

  same_end : (clauses : List AccessClause) → ends_in_break (applying (map (judged_clause d q) clauses)) ≡ ends_in_break (filter (applies d q) clauses)
  same_end [] = refl
  same_end (clause ∷ clauses) = by (same_end clauses) (applies d q clause)
    where
      by : ends_in_break (applying (map (judged_clause d q) clauses)) ≡ ends_in_break (filter (applies d q) clauses) → (b : Bool) → ends_in_break (map clause_by (cond b (judged_clause d q clause ∷ filter (λ c. c.applies) (map (judged_clause d q) clauses)) (filter (λ c. c.applies) (map (judged_clause d q) clauses)))) ≡ ends_in_break (cond b (clause ∷ filter (applies d q) clauses) (filter (applies d q) clauses))
      by later true = ap (λ rest. cond (goes_on clause.control) rest (is_break clause.control)) later
      by later false = later

  same_edits : (rules : List AccessRule) → edits_of_rules d q (filter (rule_fits q) rules) ≡ judged_edits (map (judged d q) rules)
  same_edits [] = refl
  same_edits (rule ∷ rules) = by (same_edits rules) (rule_fits q rule)
    where
      by : edits_of_rules d q (filter (rule_fits q) rules) ≡ judged_edits (map (judged d q) rules) → (b : Bool) → edits_of_rules d q (cond b (rule ∷ filter (rule_fits q) rules) (filter (rule_fits q) rules))
          ≡ cond b (edits_of (applying (map (judged_clause d q) rule.clauses)) ++ cond (ends_in_break (applying (map (judged_clause d q) rule.clauses))) (judged_edits (map (judged d q) rules)) []) (judged_edits (map (judged d q) rules))
      by later true =
          ap (λ es. es ++ cond (ends_in_break (clauses_for d q rule)) (edits_of_rules d q (filter (rule_fits q) rules)) []) (sym (same_applying rule.clauses))
          ∙ ap (λ b. edits_of (applying (map (judged_clause d q) rule.clauses)) ++ cond b (edits_of_rules d q (filter (rule_fits q) rules)) []) (sym (same_end rule.clauses))
          ∙ ap (λ es. edits_of (applying (map (judged_clause d q) rule.clauses)) ++ cond (ends_in_break (applying (map (judged_clause d q) rule.clauses))) es []) later
      by later false = later

  same_all : (rules : List AccessRule) → all_edits d q rules ≡ all_judged_edits (map (judged d q) rules)
  same_all [] = refl
  same_all (rule ∷ rules) = same_edits (rule ∷ rules)

  pub known_granted : (root : Option DnKeys) (rules : List AccessRule) (p : Privilege) → is_granted d root rules q p ≡ (is_root_for root (named q.requester) || granted_by (map (judged d q) rules) p)
  known_granted root rules p = ap (λ es. is_root_for root (named q.requester) || unwrap_or (last_word p es) false) (same_all rules)
