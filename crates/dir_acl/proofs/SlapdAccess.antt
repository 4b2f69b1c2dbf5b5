-- The examples of slapd.access(5), "THE <CONTROL> FIELD", as the definition of decisions has them. In each the clauses have the edits `=cs` and `+r`.
use Rattle.std.proofs.Common.{◌≡◌, ℕ, true, false, cond, List, [], ◌∷◌, ◌++◌, Option, Some, None, refl, ◌∙◌}
use Rattle.std.specs.Prelude.{codes, unwrap_or}
use Rattle.dir_names.specs.Attr.{Attr}
use Rattle.dir_names.specs.Keys.{DnKeys}
use Rattle.dir_tree.specs.Dir.{Dir}
use Rattle.dir_acl.specs.declared.access.Control.TheVariants.{Stop, Continue, Break}
use Rattle.dir_acl.specs.declared.access.Edit.TheVariants as edit
use Rattle.dir_acl.specs.declared.access.Style.TheVariants as style
use Rattle.dir_acl.specs.declared.access.Who.TheVariants as who
use Rattle.dir_acl.specs.declared.privileges.Privilege.{Privilege}
use Rattle.dir_acl.specs.declared.privileges.Privilege.TheVariants.{Manage, Add, Delete, Read, Search, Compare, Auth, Disclose}
use Rattle.dir_acl.specs.declared.privileges.Privileges.{Privileges}
use Rattle.dir_acl.specs.Decision.{Question, clauses_for, edits_of, edits_of_rules, ends_in_break, goes_on, holds_for, is_break, is_of_style, last_word}
use Rattle.dir_acl.specs.Privileges.{has, no_privileges}
use Rattle.dir_acl.specs.Rules.{AccessClause, AccessRule}

abbrev cs : Privileges
cs = record no_privileges { search = true; compare = true }

abbrev r : Privileges
r = record no_privileges { read = true }

abbrev rsc : Privileges
rsc = record no_privileges { read = true; search = true; compare = true }

-- ---- `by * =cs continue by users +r`

-- a requester with a name, for whom both clauses are, has search, compare and read
pub continue_for_users : (first second : AccessClause) → first.edit ≡ edit.Set cs → first.control ≡ Continue → second.edit ≡ edit.Add r → second.control ≡ Stop
    → (p : Privilege) → unwrap_or (last_word p (edits_of (first ∷ second ∷ []))) false ≡ has rsc p
continue_for_users first second e c f s p =
    (λ i. unwrap_or (last_word p (e i ∷ cond (goes_on (c i)) (f i ∷ cond (goes_on (s i)) (edits_of []) []) [])) false) ∙ by p
  where
    by : (p : Privilege) → unwrap_or (last_word p (edit.Set cs ∷ edit.Add r ∷ [])) false ≡ has rsc p
    by Manage = refl
    by Add = refl
    by Delete = refl
    by Read = refl
    by Search = refl
    by Compare = refl
    by Auth = refl
    by Disclose = refl

-- for nobody the clauses run out after `continue`, and nothing is granted
pub continue_for_nobody : (first : AccessClause) → first.edit ≡ edit.Set cs → first.control ≡ Continue → (p : Privilege) → unwrap_or (last_word p (edits_of (first ∷ []))) false ≡ false
continue_for_nobody first e c p = (λ i. unwrap_or (last_word p (e i ∷ cond (goes_on (c i)) (edits_of []) [])) false) ∙ by p
  where
    by : (p : Privilege) → unwrap_or (last_word p (edit.Set cs ∷ edits_of [])) false ≡ false
    by Manage = refl
    by Add = refl
    by Delete = refl
    by Read = refl
    by Search = refl
    by Compare = refl
    by Auth = refl
    by Disclose = refl

-- whom the clauses are for
pub all_meet_asterisk : (d : Dir) (q : Question) (k : Option DnKeys) → holds_for d q k who.Anyone ≡ true
all_meet_asterisk d q None = refl
all_meet_asterisk d q (Some k) = refl

pub users_have_a_name : (d : Dir) (q : Question) (k : DnKeys) → holds_for d q (Some k) who.Users ≡ true
users_have_a_name d q k = refl

pub nobody_is_no_user : (d : Dir) (q : Question) → holds_for d q None who.Users ≡ false
nobody_is_no_user d q = refl

-- ---- `access to dn.subtree="dc=example,dc=com" by * =cs break`, and then `access to dn.subtree="ou=People,dc=example,dc=com" by * +r`

-- where both rules fit, search, compare and read are granted
pub break_for_both : (d : Dir) (q : Question) (one two : AccessRule) (first second : AccessClause) → clauses_for d q one ≡ first ∷ [] → clauses_for d q two ≡ second ∷ []
    → first.edit ≡ edit.Set cs → first.control ≡ Break → second.edit ≡ edit.Add r → second.control ≡ Stop
    → (p : Privilege) → unwrap_or (last_word p (edits_of_rules d q (one ∷ two ∷ []))) false ≡ has rsc p
break_for_both d q one two first second u v e c f s p =
    (λ i. unwrap_or (last_word p (edits_of (u i) ++ cond (ends_in_break (u i)) (edits_of (v i) ++ cond (ends_in_break (v i)) (edits_of_rules d q []) []) [])) false)
    ∙ (λ i. unwrap_or (last_word p ((e i ∷ cond (goes_on (c i)) (edits_of []) []) ++ cond (cond (goes_on (c i)) false (is_break (c i)))
    ((f i ∷ cond (goes_on (s i)) (edits_of []) []) ++ cond (cond (goes_on (s i)) false (is_break (s i))) (edits_of_rules d q []) []) [])) false)
    ∙ by p
  where
    by : (p : Privilege) → unwrap_or (last_word p (edit.Set cs ∷ edit.Add r ∷ [])) false ≡ has rsc p
    by Manage = refl
    by Add = refl
    by Delete = refl
    by Read = refl
    by Search = refl
    by Compare = refl
    by Auth = refl
    by Disclose = refl

-- the names of the example
abbrev dc_com : List (Attr × List ℕ)
dc_com = (record { attr_type = codes "dc"; options = [] }, codes "com") ∷ []

abbrev dc_example : List (Attr × List ℕ)
dc_example = (record { attr_type = codes "dc"; options = [] }, codes "example") ∷ []

abbrev ou_people : List (Attr × List ℕ)
ou_people = (record { attr_type = codes "ou"; options = [] }, codes "people") ∷ []

abbrev cn_kim : List (Attr × List ℕ)
cn_kim = (record { attr_type = codes "cn"; options = [] }, codes "kim") ∷ []

-- both rules fit an entry below `ou=People`
pub below_both : is_of_style style.Subtree (dc_com ∷ dc_example ∷ ou_people ∷ []) (dc_com ∷ dc_example ∷ ou_people ∷ cn_kim ∷ []) ≡ true
below_both = refl

-- the second doesn't fit one beside it
pub beside_the_second : is_of_style style.Subtree (dc_com ∷ dc_example ∷ ou_people ∷ []) (dc_com ∷ dc_example ∷ cn_kim ∷ []) ≡ false
beside_the_second = refl

-- the styles: `base` is the name alone, `one` its children, `children` all below it
pub base_is_the_name : is_of_style style.Base (dc_com ∷ dc_example ∷ []) (dc_com ∷ dc_example ∷ []) ≡ true
base_is_the_name = refl

pub one_is_a_child : is_of_style style.One (dc_com ∷ dc_example ∷ []) (dc_com ∷ dc_example ∷ ou_people ∷ []) ≡ true
one_is_a_child = refl

pub one_is_no_grandchild : is_of_style style.One (dc_com ∷ dc_example ∷ []) (dc_com ∷ dc_example ∷ ou_people ∷ cn_kim ∷ []) ≡ false
one_is_no_grandchild = refl

pub children_leave_out_the_name : is_of_style style.Children (dc_com ∷ dc_example ∷ []) (dc_com ∷ dc_example ∷ []) ≡ false
children_leave_out_the_name = refl
