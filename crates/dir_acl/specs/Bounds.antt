-- What access rules grant where some of their parts aren't decided (slapd.access(5)).
--
-- For a question a part of a <what> or a <who> holds, or doesn't, or either may be so: then it is open. Open parts have numbers, and an assignment of truth values
-- to numbers closes them. `SurelyHeld`, at the end of this page, is what is held under every assignment, and `MayBeHeld` what is held under some.
use Rattle.std.specs.Prelude.{◌≡◌, ◌+◌, ℕ, suc, Bool, true, false, not, ◌&&◌, ◌||◌, cond, List, [], ◌∷◌, ◌++◌, length, filter, map, Option, Some, None, unwrap_or}
use Rattle.std.specs.List.{list_all, list_any}
use Rattle.dir_names.specs.Keys.{DnKeys}
use Rattle.dir_tree.specs.Dir.{Dir}
use Rattle.dir_acl.specs.declared.access.Asked.{Asked}
use Rattle.dir_acl.specs.declared.access.Asked.TheVariants as asked
use Rattle.dir_acl.specs.declared.access.Control.{Control}
use Rattle.dir_acl.specs.declared.access.Edit.{Edit}
use Rattle.dir_acl.specs.declared.access.Edit.TheVariants as edit
use Rattle.dir_acl.specs.declared.access.OpenWho.{OpenWho}
use Rattle.dir_acl.specs.declared.access.OpenWho.TheVariants as open_who
use Rattle.dir_acl.specs.declared.access.Who.{Who}
use Rattle.dir_acl.specs.declared.access.Who.TheVariants as who
use Rattle.dir_acl.specs.declared.open_rules.Verdict.{Verdict}
use Rattle.dir_acl.specs.declared.open_rules.Verdict.TheVariants.{Holds, Fails, Open}
use Rattle.dir_acl.specs.declared.privileges.Level.TheVariants as level
use Rattle.dir_acl.specs.declared.privileges.Privilege.{Privilege}
use Rattle.dir_acl.specs.Decision.{Question, applies, edits_of, ends_in_break, fits, has_name, holds_for, is_asked, is_root_for, last_word, named, rule_fits}
use Rattle.dir_acl.specs.Notes.Halves.{takes_half}
use Rattle.dir_acl.specs.Privileges.{level_set, no_privileges}
use Rattle.dir_acl.specs.Rules.{AccessClause, AccessRule, OpenRestriction, Restriction, open_classes, open_filter, open_name, open_types, open_value, to_attrs, to_filter, to_names, to_open}

-- ---- once it is known which rules fit, and which clauses apply

pub record JudgedClause : Type 0 where
  pub applies : Bool
  pub edit : Edit
  pub control : Control

pub record JudgedRule : Type 0 where
  pub fits : Bool
  pub clauses : List JudgedClause

abbrev pub clause_by : JudgedClause → AccessClause
clause_by clause = record { who = []; edit = clause.edit; control = clause.control }

-- the clauses that apply
abbrev pub applying : List JudgedClause → List AccessClause
applying clauses = map clause_by (filter (λ clause. clause.applies) clauses)

-- the edits of the rules that fit, one after the other; after them an implied `access to * by * none`
abbrev pub judged_edits : List JudgedRule → List Edit
judged_edits [] = edit.Set no_privileges ∷ []
judged_edits (rule ∷ rules) =
    cond rule.fits (edits_of (applying rule.clauses) ++ cond (ends_in_break (applying rule.clauses)) (judged_edits rules) []) (judged_edits rules)

-- without any rule the policy is `access to * by * read`
abbrev pub all_judged_edits : List JudgedRule → List Edit
all_judged_edits [] = edit.Set (level_set level.Read) ∷ []
all_judged_edits (rule ∷ rules) = judged_edits (rule ∷ rules)

abbrev pub granted_by : List JudgedRule → Privilege → Bool
granted_by rules p = unwrap_or (last_word p (all_judged_edits rules)) false

-- ---- rules that are decided

abbrev pub judged_clause : Dir → Question → AccessClause → JudgedClause
judged_clause d q clause = record { applies = applies d q clause; edit = clause.edit; control = clause.control }

abbrev pub judged : Dir → Question → AccessRule → JudgedRule
judged d q rule = record { fits = rule_fits q rule; clauses = map (judged_clause d q) rule.clauses }

-- ---- what a part says for a question

abbrev pub decided : Bool → Verdict
decided b = cond b Holds Fails

abbrev pub is_attribute : Asked → Bool
is_attribute asked.Entry = false
is_attribute asked.Children = false
is_attribute (asked.Attribute attr) = true

-- an item that covers what is asked decides; else an attribute may be one below a type of the list, or another name of one. A class may be for anything
abbrev pub open_what_says : Question → OpenRestriction → Verdict
open_what_says q open_name = Open
open_what_says q open_filter = Open
open_what_says q open_value = Open
open_what_says q (open_types items) = cond (list_any (λ item. is_asked item q.asked) items) Holds (cond (is_attribute q.asked) Open Fails)
open_what_says q (open_classes items) = cond (list_any (λ item. is_asked item q.asked) items) Holds Open

abbrev pub what_says : Question → Restriction → Verdict
what_says q (to_names style name) = decided (fits q (to_names style name))
what_says q (to_filter filter) = decided (fits q (to_filter filter))
what_says q (to_attrs items) = decided (fits q (to_attrs items))
what_says q (to_open what) = open_what_says q what

-- nobody is named by a value
abbrev pub open_who_says : Question → Option DnKeys → OpenWho → Verdict
open_who_says q k open_who.Anybody = Open
open_who_says q None open_who.Somebody = Fails
open_who_says q (Some k) open_who.Somebody = Open
open_who_says q None (open_who.DnAttr attr) = Fails
open_who_says q (Some k) (open_who.DnAttr attr) = cond (has_name attr k q.attributes) Holds Open

abbrev pub who_says : Dir → Question → Who → Verdict
who_says d q who.Anyone = decided (holds_for d q (named q.requester) who.Anyone)
who_says d q who.Anonymous = decided (holds_for d q (named q.requester) who.Anonymous)
who_says d q who.Users = decided (holds_for d q (named q.requester) who.Users)
who_says d q who.Myself = decided (holds_for d q (named q.requester) who.Myself)
who_says d q (who.Dn style name) = decided (holds_for d q (named q.requester) (who.Dn style name))
who_says d q (who.DnAttr attr) = decided (holds_for d q (named q.requester) (who.DnAttr attr))
who_says d q (who.Group name class_attr class member) = decided (holds_for d q (named q.requester) (who.Group name class_attr class member))
who_says d q (who.Open part) = open_who_says q (named q.requester) part

-- ---- numbers, in the order of the text: of each part, and of each clause's edit

pub record Numbered (A : Type 0) : Type 0 where
  pub number : ℕ
  pub part : A

pub record NumberedClause : Type 0 where
  pub number : ℕ
  pub who : List (Numbered Who)
  pub edit : Edit
  pub control : Control

pub record NumberedRule : Type 0 where
  pub what : List (Numbered Restriction)
  pub clauses : List NumberedClause

abbrev pub numbered : {A : Type 0} → ℕ → List A → List (Numbered A)
numbered n [] = []
numbered n (part ∷ parts) = record { number = n; part = part } ∷ numbered (suc n) parts

abbrev pub numbered_clauses : ℕ → List AccessClause → List NumberedClause
numbered_clauses n [] = []
numbered_clauses n (clause ∷ clauses) =
    record { number = n; who = numbered (suc n) clause.who; edit = clause.edit; control = clause.control } ∷ numbered_clauses (suc n + length clause.who) clauses

-- how many numbers clauses take
abbrev pub clauses_size : List AccessClause → ℕ
clauses_size [] = 0
clauses_size (clause ∷ clauses) = suc (length clause.who) + clauses_size clauses

abbrev pub numbered_rules : ℕ → List AccessRule → List NumberedRule
numbered_rules n [] = []
numbered_rules n (rule ∷ rules) =
    record { what = numbered n rule.what; clauses = numbered_clauses (n + length rule.what) rule.clauses } ∷ numbered_rules (n + length rule.what + clauses_size rule.clauses) rules

-- ---- under an assignment

-- a part that holds or doesn't says so, an open one what the assignment gives its number
abbrev pub settled : Bool → Verdict → Bool
settled b Holds = true
settled b Fails = false
settled b Open = b

abbrev pub holds_under : {A : Type 0} → (ℕ → Bool) → (A → Verdict) → Numbered A → Bool
holds_under closed says part = settled (closed part.number) (says part.part)

-- `w` is `a` and `z`. What takes one of them away may leave the other one or not
abbrev pub with_write : Edit → Edit
with_write (edit.Set set) = edit.Set set
with_write (edit.Add set) = edit.Add set
with_write (edit.Remove set) = edit.Remove (record set { add = true; delete = true })

abbrev pub edit_under : Bool → Edit → Edit
edit_under b e = cond (takes_half e && b) (with_write e) e

abbrev pub clause_under : (ℕ → Bool) → Dir → Question → NumberedClause → JudgedClause
clause_under closed d q clause = record { applies = list_all (holds_under closed (who_says d q)) clause.who; edit = edit_under (closed clause.number) clause.edit; control = clause.control }

abbrev pub rule_under : (ℕ → Bool) → Dir → Question → NumberedRule → JudgedRule
rule_under closed d q rule = record { fits = list_all (holds_under closed (what_says q)) rule.what; clauses = map (clause_under closed d q) rule.clauses }

abbrev pub granted_under : (ℕ → Bool) → Dir → Option DnKeys → List AccessRule → Question → Privilege → Bool
granted_under closed d root rules q p = is_root_for root (named q.requester) || granted_by (map (rule_under closed d q) (numbered_rules 0 rules)) p

-- ---- the two sets

abbrev pub SurelyHeld : Dir → Option DnKeys → List AccessRule → Question → Privilege → Type 0
SurelyHeld d root rules q p = (closed : ℕ → Bool) → granted_under closed d root rules q p ≡ true

abbrev pub MayBeHeld : Dir → Option DnKeys → List AccessRule → Question → Privilege → Type 0
MayBeHeld d root rules q p = (closed : ℕ → Bool) × (granted_under closed d root rules q p ≡ true)

-- ---- rules without open parts

abbrev pub what_is_decided : Restriction → Bool
what_is_decided (to_names style name) = true
what_is_decided (to_filter filter) = true
what_is_decided (to_attrs items) = true
what_is_decided (to_open what) = false

abbrev pub who_is_decided : Who → Bool
who_is_decided who.Anyone = true
who_is_decided who.Anonymous = true
who_is_decided who.Users = true
who_is_decided who.Myself = true
who_is_decided (who.Dn style name) = true
who_is_decided (who.DnAttr attr) = true
who_is_decided (who.Group name class_attr class member) = true
who_is_decided (who.Open part) = false

abbrev pub clause_is_decided : AccessClause → Bool
clause_is_decided clause = list_all who_is_decided clause.who && not (takes_half clause.edit)

abbrev pub rule_is_decided : AccessRule → Bool
rule_is_decided rule = list_all what_is_decided rule.what && list_all clause_is_decided rule.clauses
