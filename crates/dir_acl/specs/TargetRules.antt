-- What a <what> says of the target alone, and what of that which is asked for.
use Rattle.std.specs.Prelude.{◌≡◌, ℕ, Bool, true, false, not, List, Some, slice_get}
use Rattle.std.specs.List.{list_all, list_any}
use Rattle.dir_names.specs.Keys.{DnKeys}
use Rattle.dir_tree.specs.Content.{StoredAttributes}
use Rattle.dir_acl.specs.declared.access.Asked.{Asked}
use Rattle.dir_acl.specs.declared.access.target.ForTarget.{ForTarget}
use Rattle.dir_acl.specs.declared.access.target.ForTarget.TheVariants as known
use Rattle.dir_acl.specs.Decision.{is_asked, is_of_style}
use Rattle.dir_acl.specs.Rules.{AccessRule, Restriction, to_names, to_filter, to_attrs, to_open}
use Rattle.dir_acl.specs.Truth.{is_true, tree_truth}

-- what a part of a <what> says of the target alone
abbrev pub is_for : DnKeys → StoredAttributes → Restriction → Bool
is_for target attributes (to_names style name) = is_of_style style name target
is_for target attributes (to_filter filter) = is_true (tree_truth attributes filter)
is_for target attributes (to_attrs items) = true
is_for target attributes (to_open what) = false

-- and of what is asked alone
abbrev pub allows_asked : Asked → Restriction → Bool
allows_asked asked (to_names style name) = true
allows_asked asked (to_filter filter) = true
allows_asked asked (to_attrs items) = list_any (λ item. is_asked item asked) items
allows_asked asked (to_open what) = false

abbrev pub rule_is_for : DnKeys → StoredAttributes → AccessRule → Bool
rule_is_for target attributes rule = list_all (is_for target attributes) rule.what

abbrev pub rule_allows_asked : Asked → AccessRule → Bool
rule_allows_asked asked rule = list_all (allows_asked asked) rule.what

-- what is known of a rule for the target, or of one that isn't
abbrev pub agrees : ForTarget → Bool → Bool
agrees known.NotYetKnown is_for = true
agrees known.No is_for = not is_for
agrees known.Yes is_for = is_for

-- this is so of the rule at an index, if there is one
abbrev pub IsKnownAt : (AccessRule → Bool) → List AccessRule → ℕ → ForTarget → Type 0
IsKnownAt is_for rules i known = (rule : AccessRule) → slice_get rules i ≡ Some rule → agrees known (is_for rule) ≡ true

-- and of the rule at each index of a list
abbrev pub AreKnownOf : (AccessRule → Bool) → List AccessRule → List ForTarget → Type 0
AreKnownOf is_for rules all_known = (i : ℕ) (known : ForTarget) → slice_get all_known i ≡ Some known → IsKnownAt is_for rules i known
