-- What an access rule grants (slapd.access(5)).
--
-- A requester asks for an entry itself, for its children, or for one of its attributes. `is_granted` at the end of this page says which privileges it
-- has. In its words: the rules are gone through in order, and of each that fits, the `by` clauses that apply; each gives an edit of the set of
-- privileges. A privilege is held if the last edit that speaks of it gives it.
use Rattle.std.specs.Prelude.{◌+◌, Bool, true, false, not, ◌&&◌, ◌||◌, ◌==◌, cond, List, [], ◌∷◌, ◌++◌, length, filter, Option, Some, None, unwrap_or}
use Rattle.std.specs.List.{list_all, list_any, starts_with}
use Rattle.std.specs.FinMap as fin
use Rattle.dir_names.specs.Attr.{Attr}
use Rattle.dir_names.specs.Covers.{covers}
use Rattle.dir_names.specs.Keys.{DnKeys}
use Rattle.dir_names.specs.Orders.{dn_key_eq, rdn_key_eq}
use Rattle.dir_names.specs.declared.value.ValueKey.TheVariants as key
use Rattle.dir_tree.specs.Content.{Content, StoredAttributes, has_value}
use Rattle.dir_tree.specs.Dir.{Dir, entry_at}
use Rattle.dir_acl.specs.declared.access.Asked.{Asked}
use Rattle.dir_acl.specs.declared.access.Asked.TheVariants as asked
use Rattle.dir_acl.specs.declared.access.Control.{Control}
use Rattle.dir_acl.specs.declared.access.Control.TheVariants.{Stop, Continue, Break}
use Rattle.dir_acl.specs.declared.access.Edit.{Edit}
use Rattle.dir_acl.specs.declared.access.Edit.TheVariants as edit
use Rattle.dir_acl.specs.declared.access.Style.{Style}
use Rattle.dir_acl.specs.declared.access.Style.TheVariants as style
use Rattle.dir_acl.specs.declared.access.Who.{Who}
use Rattle.dir_acl.specs.declared.access.Who.TheVariants as who
use Rattle.dir_acl.specs.declared.privileges.Level.TheVariants as level
use Rattle.dir_acl.specs.declared.privileges.Privilege.{Privilege}
use Rattle.dir_acl.specs.Privileges.{has, level_set, no_privileges}
use Rattle.dir_acl.specs.Rules.{AccessClause, AccessRule, Restriction, to_names, to_filter, to_attrs, to_open}
use Rattle.dir_acl.specs.Truth.{is_true, tree_truth}

-- who asks, for what: the requester's name, the target with its attributes (none for an entry that is made up), and what of it is asked for
pub record Question : Type 0 where
  pub requester : Option DnKeys
  pub target : DnKeys
  pub attributes : StoredAttributes
  pub asked : Asked

-- the requester's name. The name without RDNs is that of nobody
abbrev pub named : Option DnKeys → Option DnKeys
named None = None
named (Some k) = cond (length k == 0) None (Some k)

-- ---- <what>

-- a key of a style: the name itself; its children, which begin with it, root first, and have one part more; all that begin with it; all but itself that do
abbrev pub is_of_style : Style → DnKeys → DnKeys → Bool
is_of_style style.Base name k = dn_key_eq k name
is_of_style style.One name k = starts_with rdn_key_eq k name && length k == length name + 1
is_of_style style.Subtree name k = starts_with rdn_key_eq k name
is_of_style style.Children name k = starts_with rdn_key_eq k name && not (dn_key_eq k name)

-- an item of `attrs=`: the pseudo attributes, or a description that covers the one that is asked for
abbrev pub is_asked : Asked → Asked → Bool
is_asked asked.Entry asked.Entry = true
is_asked asked.Entry asked.Children = false
is_asked asked.Entry (asked.Attribute attr) = false
is_asked asked.Children asked.Entry = false
is_asked asked.Children asked.Children = true
is_asked asked.Children (asked.Attribute attr) = false
is_asked (asked.Attribute item) asked.Entry = false
is_asked (asked.Attribute item) asked.Children = false
is_asked (asked.Attribute item) (asked.Attribute attr) = covers item attr

-- a filter fits if it is True. What isn't decided (`Bounds`) no decision is made by: it doesn't fit
abbrev pub fits : Question → Restriction → Bool
fits q (to_names style name) = is_of_style style name q.target
fits q (to_filter filter) = is_true (tree_truth q.attributes filter)
fits q (to_attrs items) = list_any (λ item. is_asked item q.asked) items
fits q (to_open what) = false

-- a rule fits if each part of its <what> does
abbrev pub rule_fits : Question → AccessRule → Bool
rule_fits q rule = list_all (fits q) rule.what

-- ---- <who>

-- an attribute that the description covers has the name as a value
abbrev pub has_name : Attr → DnKeys → StoredAttributes → Bool
has_name attr k attributes = list_any (λ a. covers attr a.0 && fin.contains_key a.1.values (key.Name k)) (fin.entries attributes)

-- the entry of a group is of the class, and has the requester as a member
abbrev pub is_member_in : DnKeys → Who → Option Content → Bool
is_member_in k w None = false
is_member_in k (who.Group name class_attr class member) (Some entry) = has_value entry.attributes class_attr class && has_name member k entry.attributes
is_member_in k who.Anyone (Some entry) = false
is_member_in k who.Anonymous (Some entry) = false
is_member_in k who.Users (Some entry) = false
is_member_in k who.Myself (Some entry) = false
is_member_in k (who.Dn style name) (Some entry) = false
is_member_in k (who.DnAttr attr) (Some entry) = false
is_member_in k (who.Open w) (Some entry) = false

-- a requester with a name
abbrev pub holds_of : Dir → Question → Who → DnKeys → Bool
holds_of d q who.Anyone k = true
holds_of d q who.Anonymous k = false
holds_of d q who.Users k = true
holds_of d q who.Myself k = dn_key_eq k q.target
holds_of d q (who.Dn style name) k = is_of_style style name k
holds_of d q (who.DnAttr attr) k = has_name attr k q.attributes
holds_of d q (who.Open w) k = false
holds_of d q (who.Group name class_attr class member) k = is_member_in k (who.Group name class_attr class member) (entry_at d name)

-- a requester without a name meets `*` and `anonymous` alone
abbrev pub holds_of_nobody : Who → Bool
holds_of_nobody who.Anyone = true
holds_of_nobody who.Anonymous = true
holds_of_nobody who.Users = false
holds_of_nobody who.Myself = false
holds_of_nobody (who.Dn style name) = false
holds_of_nobody (who.DnAttr attr) = false
holds_of_nobody (who.Group name class_attr class member) = false
holds_of_nobody (who.Open w) = false

abbrev pub holds_for : Dir → Question → Option DnKeys → Who → Bool
holds_for d q None w = holds_of_nobody w
holds_for d q (Some k) w = holds_of d q w k

-- a clause applies if each part of its <who> holds
abbrev pub applies : Dir → Question → AccessClause → Bool
applies d q clause = list_all (holds_for d q (named q.requester)) clause.who

-- ---- the edits that apply

-- of the clauses that apply, all up to the first whose control is not `continue`; after them an implied `by * none stop`
abbrev pub goes_on : Control → Bool
goes_on Stop = false
goes_on Continue = true
goes_on Break = false

abbrev pub edits_of : List AccessClause → List Edit
edits_of [] = edit.Set no_privileges ∷ []
edits_of (clause ∷ clauses) = clause.edit ∷ cond (goes_on clause.control) (edits_of clauses) []

-- whether they end in `break`, which goes on with the later rules
abbrev pub is_break : Control → Bool
is_break Stop = false
is_break Continue = false
is_break Break = true

abbrev pub ends_in_break : List AccessClause → Bool
ends_in_break [] = false
ends_in_break (clause ∷ clauses) = cond (goes_on clause.control) (ends_in_break clauses) (is_break clause.control)

abbrev pub clauses_for : Dir → Question → AccessRule → List AccessClause
clauses_for d q rule = filter (applies d q) rule.clauses

-- the edits of the rules that fit, one after the other; after them an implied `access to * by * none`
abbrev pub edits_of_rules : Dir → Question → List AccessRule → List Edit
edits_of_rules d q [] = edit.Set no_privileges ∷ []
edits_of_rules d q (rule ∷ rules) = edits_of (clauses_for d q rule) ++ cond (ends_in_break (clauses_for d q rule)) (edits_of_rules d q rules) []

-- without any rule the policy is `access to * by * read`
abbrev pub all_edits : Dir → Question → List AccessRule → List Edit
all_edits d q [] = edit.Set (level_set level.Read) ∷ []
all_edits d q (rule ∷ rules) = edits_of_rules d q (filter (rule_fits q) (rule ∷ rules))

-- ---- the last word

-- `=` and a level speak of all privileges, `+` and `-` of those that they name
abbrev pub says : Edit → Privilege → Option Bool
says (edit.Set set) p = Some (has set p)
says (edit.Add set) p = cond (has set p) (Some true) None
says (edit.Remove set) p = cond (has set p) (Some false) None

abbrev pub or_before : Option Bool → Option Bool → Option Bool
or_before (Some said) before = Some said
or_before None before = before

abbrev pub last_word : Privilege → List Edit → Option Bool
last_word p [] = None
last_word p (e ∷ es) = or_before (last_word p es) (says e p)

-- ---- the decision

-- the name of the administrator, which is not that of nobody
abbrev pub is_root_for : Option DnKeys → Option DnKeys → Bool
is_root_for None k = false
is_root_for (Some root) None = false
is_root_for (Some root) (Some k) = dn_key_eq k root

-- the rootdn has each privilege; others have those that the last edit gives
abbrev pub is_granted : Dir → Option DnKeys → List AccessRule → Question → Privilege → Bool
is_granted d root rules q p = is_root_for root (named q.requester) || unwrap_or (last_word p (all_edits d q rules)) false
