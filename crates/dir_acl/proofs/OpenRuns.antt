-- The runs through rules with open parts: for all privileges at once as for each.
use Rattle.std.proofs.Common.{◌≡◌, Bool, true, false, cond, not, List, [], ◌∷◌, Some, None, refl, sym, ap, ◌∙◌}
use Rattle.std.specs.Prelude.{◌&&◌, ◌||◌}
use Rattle.dir_acl.specs.declared.access.Control.{Control}
use Rattle.dir_acl.specs.declared.access.Control.TheVariants.{Stop, Continue, Break}
use Rattle.dir_acl.specs.declared.access.Edit.{Edit}
use Rattle.dir_acl.specs.declared.access.Edit.TheVariants as edit
use Rattle.dir_acl.specs.declared.open_rules.Runs as declared
use Rattle.dir_acl.specs.declared.privileges.Privilege.{Privilege}
use Rattle.dir_acl.specs.declared.privileges.Privilege.TheVariants.{Manage, Add, Delete, Read, Search, Compare, Auth, Disclose}
use Rattle.dir_acl.specs.declared.privileges.Privileges.{Privileges}
use Rattle.dir_acl.specs.Decision.{says}
use Rattle.dir_acl.specs.Inside.Bounding.{Parted, Runs, WeighedClause, WeighedRule, after_clauses, after_rules, both_parted, both_runs, by_control, edited_runs, no_runs, passing, taking, told_runs, without_it}
use Rattle.dir_acl.specs.Inside.OpenRules.{left, runs_at, with_taken}
use Rattle.dir_acl.specs.Inside.RunningSet.{joined, without}
use Rattle.dir_acl.specs.Privileges.{has}

-- ---- one edit

set_runs : (h l s : Bool) → record { held = (h || l) && not ((h || l) && not s); lacking = (h || l) && not s } ≡ told_runs (Some s) (record { held = h; lacking = l })
set_runs true l true = refl
set_runs true l false = refl
set_runs false true true = refl
set_runs false true false = refl
set_runs false false true = refl
set_runs false false false = refl

add_runs : (h l s : Bool) → record { held = h || ((h || l) && not ((h || l) && not s)); lacking = l && not s } ≡ told_runs (cond s (Some true) None) (record { held = h; lacking = l })
add_runs true true true = refl
add_runs true true false = refl
add_runs true false true = refl
add_runs true false false = refl
add_runs false true true = refl
add_runs false true false = refl
add_runs false false true = refl
add_runs false false false = refl

remove_runs : (h l s : Bool) → record { held = h && not s; lacking = l || ((h || l) && not ((h || l) && not s)) } ≡ told_runs (cond s (Some false) None) (record { held = h; lacking = l })
remove_runs true true true = refl
remove_runs true true false = refl
remove_runs true false true = refl
remove_runs true false false = refl
remove_runs false true true = refl
remove_runs false true false = refl
remove_runs false false true = refl
remove_runs false false false = refl

module _ (h l s : Privileges) where
  abbrev any : Privileges
  any = joined h l

  set_at : (p : Privilege) → record { held = has (without any (without any s)) p; lacking = has (without any s) p } ≡ told_runs (Some (has s p)) (record { held = has h p; lacking = has l p })
  set_at Manage = set_runs h.manage l.manage s.manage
  set_at Add = set_runs h.add l.add s.add
  set_at Delete = set_runs h.delete l.delete s.delete
  set_at Read = set_runs h.read l.read s.read
  set_at Search = set_runs h.search l.search s.search
  set_at Compare = set_runs h.compare l.compare s.compare
  set_at Auth = set_runs h.auth l.auth s.auth
  set_at Disclose = set_runs h.disclose l.disclose s.disclose

  add_at : (p : Privilege) → record { held = has (joined h (without any (without any s))) p; lacking = has (without l s) p } ≡ told_runs (cond (has s p) (Some true) None) (record { held = has h p; lacking = has l p })
  add_at Manage = add_runs h.manage l.manage s.manage
  add_at Add = add_runs h.add l.add s.add
  add_at Delete = add_runs h.delete l.delete s.delete
  add_at Read = add_runs h.read l.read s.read
  add_at Search = add_runs h.search l.search s.search
  add_at Compare = add_runs h.compare l.compare s.compare
  add_at Auth = add_runs h.auth l.auth s.auth
  add_at Disclose = add_runs h.disclose l.disclose s.disclose

  remove_at : (p : Privilege) → record { held = has (without h s) p; lacking = has (joined l (without any (without any s))) p } ≡ told_runs (cond (has s p) (Some false) None) (record { held = has h p; lacking = has l p })
  remove_at Manage = remove_runs h.manage l.manage s.manage
  remove_at Add = remove_runs h.add l.add s.add
  remove_at Delete = remove_runs h.delete l.delete s.delete
  remove_at Read = remove_runs h.read l.read s.read
  remove_at Search = remove_runs h.search l.search s.search
  remove_at Compare = remove_runs h.compare l.compare s.compare
  remove_at Auth = remove_runs h.auth l.auth s.auth
  remove_at Disclose = remove_runs h.disclose l.disclose s.disclose

module _ (self : declared.Runs) (all both s : Privileges) (e : Edit) (p : Privilege) (of_all : all ≡ joined self.held self.lacking) (of_both : both ≡ without all (without all s)) where
  of_any : both ≡ without (joined self.held self.lacking) (without (joined self.held self.lacking) s)
  of_any = of_both ∙ ap (λ any. without any (without any s)) of_all

  pub set_told : (rest : Privileges) → rest ≡ without all s → e ≡ edit.Set s → record { held = has both p; lacking = has rest p } ≡ told_runs (says e p) (runs_at self p)
  set_told rest of_rest is =
      (λ i. record { held = has (of_any i) p; lacking = has ((of_rest ∙ ap (λ any. without any s) of_all) i) p })
      ∙ set_at self.held self.lacking s p
      ∙ ap (λ e. told_runs (says e p) (runs_at self p)) (sym is)

  pub add_told : (held lacking : Privileges) → held ≡ joined self.held both → lacking ≡ without self.lacking s → e ≡ edit.Add s → record { held = has held p; lacking = has lacking p } ≡ told_runs (says e p) (runs_at self p)
  add_told held lacking of_held of_lacking is =
      (λ i. record { held = has ((of_held ∙ ap (joined self.held) of_any) i) p; lacking = has (of_lacking i) p })
      ∙ add_at self.held self.lacking s p
      ∙ ap (λ e. told_runs (says e p) (runs_at self p)) (sym is)

  pub remove_told : (held lacking : Privileges) → held ≡ without self.held s → lacking ≡ joined self.lacking both → e ≡ edit.Remove s → record { held = has held p; lacking = has lacking p } ≡ told_runs (says e p) (runs_at self p)
  remove_told held lacking of_held of_lacking is =
      (λ i. record { held = has (of_held i) p; lacking = has ((of_lacking ∙ ap (joined self.lacking) of_any) i) p })
      ∙ remove_at self.held self.lacking s p
      ∙ ap (λ e. told_runs (says e p) (runs_at self p)) (sym is)

-- ---- sets of runs, joined

pub joined_at : (a b : Privileges) (p : Privilege) → has (joined a b) p ≡ (has a p || has b p)
joined_at a b Manage = refl
joined_at a b Add = refl
joined_at a b Delete = refl
joined_at a b Read = refl
joined_at a b Search = refl
joined_at a b Compare = refl
joined_at a b Auth = refl
joined_at a b Disclose = refl

pub without_at : (a b : Privileges) (p : Privilege) → has (without a b) p ≡ (has a p && not (has b p))
without_at a b Manage = refl
without_at a b Add = refl
without_at a b Delete = refl
without_at a b Read = refl
without_at a b Search = refl
without_at a b Compare = refl
without_at a b Auth = refl
without_at a b Disclose = refl

or_assoc : (a b c : Bool) → (a || (b || c)) ≡ ((a || b) || c)
or_assoc true b c = refl
or_assoc false b c = refl

or_false : (a : Bool) → (a || false) ≡ a
or_false true = refl
or_false false = refl

both_assoc : (a b c : Runs) → both_runs a (both_runs b c) ≡ both_runs (both_runs a b) c
both_assoc a b c = λ i. record { held = or_assoc a.held b.held c.held i; lacking = or_assoc a.lacking b.lacking c.lacking i }

both_none : (a : Runs) → both_runs a no_runs ≡ a
both_none a = λ i. record { held = or_false a.held i; lacking = or_false a.lacking i }

module _ (p : Privilege) where
  -- one clause more
  pub one_clause : (so_far : Parted) (clause : WeighedClause) (clauses : List WeighedClause) (live : Runs)
      → both_parted so_far (after_clauses p (clause ∷ clauses) live)
      ≡ both_parted (with_taken clause.control so_far (edited_runs clause.edit p (taking clause.may live)))
      (after_clauses p clauses (left clause.control (edited_runs clause.edit p (taking clause.may live)) (passing clause.must live)))
  one_clause so_far clause clauses live = by clause.control
    where
      taken : Runs
      taken = edited_runs clause.edit p (taking clause.may live)

      passed : Runs
      passed = passing clause.must live

      by : (control : Control) → both_parted so_far (by_control control taken passed (after_clauses p clauses)) ≡ both_parted (with_taken control so_far taken) (after_clauses p clauses (left control taken passed))
      by Stop = λ i. record { on = both_runs so_far.on (after_clauses p clauses passed).on; ended = both_assoc so_far.ended taken (after_clauses p clauses passed).ended i }
      by Break = λ i. record { on = both_assoc so_far.on taken (after_clauses p clauses passed).on i; ended = both_runs so_far.ended (after_clauses p clauses passed).ended }
      by Continue = refl

  pub no_clause : (so_far : Parted) (live : Runs) → both_parted so_far (after_clauses p [] live) ≡ record { on = so_far.on; ended = both_runs so_far.ended (without_it live) }
  no_clause so_far live = λ i. record { on = both_none so_far.on i; ended = both_runs so_far.ended (without_it live) }

  -- one rule more
  pub one_rule : (ended : Runs) (rule : WeighedRule) (rules : List WeighedRule) (live : Runs)
      → both_runs ended (after_rules p (rule ∷ rules) live)
      ≡ both_runs (both_runs ended (after_clauses p rule.clauses (taking rule.may live)).ended)
      (after_rules p rules (both_runs (after_clauses p rule.clauses (taking rule.may live)).on (passing rule.must live)))
  one_rule ended rule rules live =
      both_assoc ended (after_clauses p rule.clauses (taking rule.may live)).ended
      (after_rules p rules (both_runs (after_clauses p rule.clauses (taking rule.may live)).on (passing rule.must live)))

pub not_swaps : {A : Type 0} (b : Bool) (x y : A) → cond (not b) x y ≡ cond b y x
not_swaps true x y = refl
not_swaps false x y = refl
