-- The running set holds what the last word gives.
use Rattle.std.proofs.Common.{◌≡◌, arith, length, Bool, true, false, not, cond, List, [], ◌∷◌, Option, Some, None, refl, sym, ap, ◌∙◌}
use Rattle.std.specs.Prelude.{◌==◌, ◌&&◌, ◌||◌, filter, unwrap_or}
use Rattle.std.proofs.lemmas.Bool.{eqb-true}
use Rattle.std.proofs.lemmas.List.Sums.{fold-append}
use Rattle.dir_names.specs.Keys.{DnKeys}
use Rattle.dir_tree.specs.Dir.{Dir}
use Rattle.dir_acl.specs.declared.access.Control.TheVariants.{Stop, Continue, Break}
use Rattle.dir_acl.specs.declared.access.Edit.{Edit}
use Rattle.dir_acl.specs.declared.access.Edit.TheVariants as edit
use Rattle.dir_acl.specs.declared.access.Rule.{Rule}
use Rattle.dir_acl.specs.declared.privileges.Privilege.{Privilege}
use Rattle.dir_acl.specs.declared.privileges.Privilege.TheVariants.{Manage, Add, Delete, Read, Search, Compare, Auth, Disclose}
use Rattle.dir_acl.specs.declared.privileges.Privileges.{Privileges}
use Rattle.dir_acl.specs.Decision.{Question, all_edits, clauses_for, is_granted, is_root_for, named, edits_of, edits_of_rules, ends_in_break, goes_on, is_break, last_word, or_before, rule_fits, says}
use Rattle.dir_acl.specs.Rules.{AccessClause, AccessRule, rules_of}
use Rattle.dir_acl.specs.Inside.RunningSet.{after_edits, edited}
use Rattle.dir_acl.specs.Privileges.{all_privileges, has, level_set, no_privileges}
use Rattle.dir_acl.specs.declared.privileges.Level.TheVariants as level

or_of : (a b : Bool) → (a || b) ≡ unwrap_or (cond b (Some true) None) a
or_of true true = refl
or_of true false = refl
or_of false true = refl
or_of false false = refl

and_of : (a b : Bool) → (a && not b) ≡ unwrap_or (cond b (Some false) None) a
and_of true true = refl
and_of true false = refl
and_of false true = refl
and_of false false = refl

-- one edit
edited_says : (set : Privileges) (e : Edit) (p : Privilege) → has (edited set e) p ≡ unwrap_or (says e p) (has set p)
edited_says set (edit.Set new) p = refl
edited_says set (edit.Add more) Manage = or_of set.manage more.manage
edited_says set (edit.Add more) Add = or_of set.add more.add
edited_says set (edit.Add more) Delete = or_of set.delete more.delete
edited_says set (edit.Add more) Read = or_of set.read more.read
edited_says set (edit.Add more) Search = or_of set.search more.search
edited_says set (edit.Add more) Compare = or_of set.compare more.compare
edited_says set (edit.Add more) Auth = or_of set.auth more.auth
edited_says set (edit.Add more) Disclose = or_of set.disclose more.disclose
edited_says set (edit.Remove less) Manage = and_of set.manage less.manage
edited_says set (edit.Remove less) Add = and_of set.add less.add
edited_says set (edit.Remove less) Delete = and_of set.delete less.delete
edited_says set (edit.Remove less) Read = and_of set.read less.read
edited_says set (edit.Remove less) Search = and_of set.search less.search
edited_says set (edit.Remove less) Compare = and_of set.compare less.compare
edited_says set (edit.Remove less) Auth = and_of set.auth less.auth
edited_says set (edit.Remove less) Disclose = and_of set.disclose less.disclose

pub said_before : (last first : Option Bool) (b : Bool) → unwrap_or last (unwrap_or first b) ≡ unwrap_or (or_before last first) b
said_before (Some x) first b = refl
said_before None first b = refl

after_says : (set : Privileges) (es : List Edit) (p : Privilege) → has (after_edits set es) p ≡ unwrap_or (last_word p es) (has set p)
after_says set [] p = refl
after_says set (e ∷ es) p = after_says (edited set e) es p ∙ ap (unwrap_or (last_word p es)) (edited_says set e p) ∙ said_before (last_word p es) (says e p) (has set p)

pub has_none : (p : Privilege) → has no_privileges p ≡ false
has_none Manage = refl
has_none Add = refl
has_none Delete = refl
has_none Read = refl
has_none Search = refl
has_none Compare = refl
has_none Auth = refl
has_none Disclose = refl

pub held_by_last_word : (es : List Edit) (p : Privilege) → has (after_edits no_privileges es) p ≡ unwrap_or (last_word p es) false
held_by_last_word es p = after_says no_privileges es p ∙ ap (unwrap_or (last_word p es)) (has_none p)

-- ---- decisions

pub has_all : (p : Privilege) → has all_privileges p ≡ true
has_all Manage = refl
has_all Add = refl
has_all Delete = refl
has_all Read = refl
has_all Search = refl
has_all Compare = refl
has_all Auth = refl
has_all Disclose = refl

module _ (d : Dir) (root : Option DnKeys) (q : Question) (p : Privilege) where
  pub root_has_all : (rules : List Rule) → is_root_for root (named q.requester) ≡ true → has all_privileges p ≡ is_granted d root (rules_of rules) q p
  root_has_all rules e = has_all p ∙ sym (ap (λ t. t || unwrap_or (last_word p (all_edits d q (rules_of rules))) false) e)

  pub reads_without_rules : (rules : List Rule) → (length rules == 0) ≡ true → is_root_for root (named q.requester) ≡ false → has (level_set level.Read) p ≡ is_granted d root (rules_of rules) q p
  reads_without_rules [] n e = sym (ap (λ t. t || has (level_set level.Read) p) e)
  reads_without_rules (rule ∷ rules) n e = let none = eqb-true (length (rule ∷ rules)) 0 n in absurd (omega arith)

  pub held_under_rules : (rules : List Rule) → (length rules == 0) ≡ false → is_root_for root (named q.requester) ≡ false
      → has (after_edits no_privileges (edits_of_rules d q (filter (rule_fits q) (rules_of rules)))) p ≡ is_granted d root (rules_of rules) q p
  held_under_rules [] n e = absurd (cc)
  held_under_rules (rule ∷ rules) n e =
      held_by_last_word (edits_of_rules d q (filter (rule_fits q) (rules_of (rule ∷ rules)))) p
      ∙ sym (ap (λ t. t || unwrap_or (last_word p (edits_of_rules d q (filter (rule_fits q) (rules_of (rule ∷ rules))))) false) e)

-- ---- clauses

module _ (set : Privileges) (clause : AccessClause) (clauses : List AccessClause) where
  pub after_stop : clause.control ≡ Stop → after_edits set (edits_of (clause ∷ clauses)) ≡ edited set clause.edit
  after_stop e = ap (λ c. after_edits set (clause.edit ∷ cond (goes_on c) (edits_of clauses) [])) e

  pub after_break : clause.control ≡ Break → after_edits set (edits_of (clause ∷ clauses)) ≡ edited set clause.edit
  after_break e = ap (λ c. after_edits set (clause.edit ∷ cond (goes_on c) (edits_of clauses) [])) e

  pub after_continue : clause.control ≡ Continue → after_edits set (edits_of (clause ∷ clauses)) ≡ after_edits (edited set clause.edit) (edits_of clauses)
  after_continue e = ap (λ c. after_edits set (clause.edit ∷ cond (goes_on c) (edits_of clauses) [])) e

  pub end_at_stop : clause.control ≡ Stop → ends_in_break (clause ∷ clauses) ≡ false
  end_at_stop e = ap (λ c. cond (goes_on c) (ends_in_break clauses) (is_break c)) e

  pub end_at_break : clause.control ≡ Break → ends_in_break (clause ∷ clauses) ≡ true
  end_at_break e = ap (λ c. cond (goes_on c) (ends_in_break clauses) (is_break c)) e

  pub end_later : clause.control ≡ Continue → ends_in_break (clause ∷ clauses) ≡ ends_in_break clauses
  end_later e = ap (λ c. cond (goes_on c) (ends_in_break clauses) (is_break c)) e

pub ruleset clause_rules = (after_stop, after_break, after_continue, end_at_stop, end_at_break, end_later)

-- ---- rules

module _ (d : Dir) (q : Question) (set : Privileges) (rule : AccessRule) (rules : List AccessRule) where
  pub after_last_rule : ends_in_break (clauses_for d q rule) ≡ false → after_edits set (edits_of_rules d q (rule ∷ rules)) ≡ after_edits set (edits_of (clauses_for d q rule))
  after_last_rule e =
      fold-append edited set (edits_of (clauses_for d q rule)) _ ∙ ap (λ t. after_edits (after_edits set (edits_of (clauses_for d q rule))) (cond t (edits_of_rules d q rules) [])) e

  pub after_rule : ends_in_break (clauses_for d q rule) ≡ true → after_edits set (edits_of_rules d q (rule ∷ rules)) ≡ after_edits (after_edits set (edits_of (clauses_for d q rule))) (edits_of_rules d q rules)
  after_rule e =
      fold-append edited set (edits_of (clauses_for d q rule)) _ ∙ ap (λ t. after_edits (after_edits set (edits_of (clauses_for d q rule))) (cond t (edits_of_rules d q rules) [])) e

pub ruleset rule_rules = (after_last_rule, after_rule)
