-- Rules without an open part grant what a decision grants, however numbers are closed.
use Rattle.std.proofs.Common.{◌≡◌, ℕ, suc, ◌+◌, Bool, true, false, not, cond, List, [], ◌∷◌, length, map, Option, refl, sym, ap, ◌∙◌}
use Rattle.std.specs.Prelude.{◌&&◌, ◌||◌}
use Rattle.std.specs.List.{list_all}
use Rattle.dir_names.specs.Keys.{DnKeys}
use Rattle.dir_names.proofs.Both.{left, right}
use Rattle.dir_tree.specs.Dir.{Dir}
use Rattle.dir_acl.specs.declared.access.Edit.{Edit}
use Rattle.dir_acl.specs.declared.access.Who.{Who}
use Rattle.dir_acl.specs.declared.access.Who.TheVariants as who
use Rattle.dir_acl.specs.declared.privileges.Privilege.{Privilege}
use Rattle.dir_acl.specs.Bounds.{clause_is_decided, clause_under, clauses_size, decided, granted_by, granted_under, holds_under, judged, judged_clause, numbered, numbered_clauses, numbered_rules, rule_is_decided, rule_under, settled, what_is_decided, what_says, who_is_decided, who_says, with_write}
use Rattle.dir_acl.specs.Decision.{Question, fits, holds_for, is_granted, is_root_for, named}
use Rattle.dir_acl.specs.Notes.Halves.{takes_half}
use Rattle.dir_acl.specs.Rules.{AccessClause, AccessRule, Restriction, to_attrs, to_filter, to_names, to_open}
use Rattle.dir_acl.proofs.Bounds.Judged.{known_granted}

said_so : (b x : Bool) → settled b (decided x) ≡ x
said_so b true = refl
said_so b false = refl

edit_so : (b half : Bool) (e : Edit) → not half ≡ true → cond (half && b) (with_write e) e ≡ e
edit_so b false e whole = refl
edit_so b true e whole = absurd (cc)

module _ (closed : ℕ → Bool) (d : Dir) (q : Question) where
  what_so : (b : Bool) (r : Restriction) → what_is_decided r ≡ true → settled b (what_says q r) ≡ fits q r
  what_so b (to_names style name) e = said_so b (fits q (to_names style name))
  what_so b (to_filter filter) e = said_so b (fits q (to_filter filter))
  what_so b (to_attrs items) e = said_so b (fits q (to_attrs items))
  what_so b (to_open what) e = absurd (cc)

  who_so : (b : Bool) (w : Who) → who_is_decided w ≡ true → settled b (who_says d q w) ≡ holds_for d q (named q.requester) w
  who_so b who.Anyone e = said_so b (holds_for d q (named q.requester) who.Anyone)
  who_so b who.Anonymous e = said_so b (holds_for d q (named q.requester) who.Anonymous)
  who_so b who.Users e = said_so b (holds_for d q (named q.requester) who.Users)
  who_so b who.Myself e = said_so b (holds_for d q (named q.requester) who.Myself)
  who_so b (who.Dn style name) e = said_so b (holds_for d q (named q.requester) (who.Dn style name))
  who_so b (who.DnAttr attr) e = said_so b (holds_for d q (named q.requester) (who.DnAttr attr))
  who_so b (who.Group name class_attr class member) e = said_so b (holds_for d q (named q.requester) (who.Group name class_attr class member))
  who_so b (who.Open part) e = absurd (cc)

  whats_so : (n : ℕ) (rs : List Restriction) → list_all what_is_decided rs ≡ true → list_all (holds_under closed (what_says q)) (numbered n rs) ≡ list_all (fits q) rs
  whats_so n [] e = refl
  whats_so n (r ∷ rs) e = λ i. what_so (closed n) r (left (what_is_decided r) (list_all what_is_decided rs) e) i && whats_so (suc n) rs (right (what_is_decided r) (list_all what_is_decided rs) e) i

  whos_so : (n : ℕ) (ws : List Who) → list_all who_is_decided ws ≡ true → list_all (holds_under closed (who_says d q)) (numbered n ws) ≡ list_all (holds_for d q (named q.requester)) ws
  whos_so n [] e = refl
  whos_so n (w ∷ ws) e = λ i. who_so (closed n) w (left (who_is_decided w) (list_all who_is_decided ws) e) i && whos_so (suc n) ws (right (who_is_decided w) (list_all who_is_decided ws) e) i

  clauses_so : (n : ℕ) (clauses : List AccessClause) → list_all clause_is_decided clauses ≡ true → map (clause_under closed d q) (numbered_clauses n clauses) ≡ map (judged_clause d q) clauses
  clauses_so n [] e = refl
  clauses_so n (clause ∷ clauses) e =
      let one : clause_is_decided clause ≡ true = left (clause_is_decided clause) (list_all clause_is_decided clauses) e in
      λ i. record {
        applies = whos_so (suc n) clause.who (left (list_all who_is_decided clause.who) (not (takes_half clause.edit)) one) i;
        edit = edit_so (closed n) (takes_half clause.edit) clause.edit (right (list_all who_is_decided clause.who) (not (takes_half clause.edit)) one) i;
        control = clause.control;
      }
      ∷ clauses_so (suc n + length clause.who) clauses (right (clause_is_decided clause) (list_all clause_is_decided clauses) e) i

  rules_so : (n : ℕ) (rules : List AccessRule) → list_all rule_is_decided rules ≡ true → map (rule_under closed d q) (numbered_rules n rules) ≡ map (judged d q) rules
  rules_so n [] e = refl
  rules_so n (rule ∷ rules) e =
      let one : rule_is_decided rule ≡ true = left (rule_is_decided rule) (list_all rule_is_decided rules) e in
      λ i. record {
        fits = whats_so n rule.what (left (list_all what_is_decided rule.what) (list_all clause_is_decided rule.clauses) one) i;
        clauses = clauses_so (n + length rule.what) rule.clauses (right (list_all what_is_decided rule.what) (list_all clause_is_decided rule.clauses) one) i;
      }
      ∷ rules_so (n + length rule.what + clauses_size rule.clauses) rules (right (rule_is_decided rule) (list_all rule_is_decided rules) e) i

  pub decided_granted : (root : Option DnKeys) (rules : List AccessRule) (p : Privilege) → list_all rule_is_decided rules ≡ true → granted_under closed d root rules q p ≡ is_granted d root rules q p
  decided_granted root rules p e = ap (λ judged_rules. is_root_for root (named q.requester) || granted_by judged_rules p) (rules_so 0 rules e) ∙ sym (known_granted d q root rules p)
