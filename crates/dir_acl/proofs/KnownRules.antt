-- A decision by rules of which it is remembered whether they are for the target.
use Rattle.std.proofs.Common.{◌≡◌, Bool, true, false, List, [], ◌∷◌, refl, sym, ap, ◌∙◌}
use Rattle.std.specs.Prelude.{◌&&◌, not}
use Rattle.std.specs.List.{list_all}
use Rattle.dir_names.specs.Keys.{DnKeys}
use Rattle.dir_tree.specs.Content.{StoredAttributes}
use Rattle.dir_acl.specs.Decision.{Question, fits, rule_fits}
use Rattle.dir_acl.specs.Rules.{AccessRule, Restriction, to_names, to_filter, to_attrs, to_open}
use Rattle.dir_acl.specs.TargetRules.{agrees, allows_asked, is_for, rule_allows_asked, rule_is_for}
use Rattle.dir_acl.specs.declared.access.target.ForTarget.TheVariants as known

-- ---- a <what> says something of the target and something of what is asked

and_true : (b : Bool) → b ≡ (b && true)
and_true true = refl
and_true false = refl

four : (a b c d : Bool) → ((a && b) && (c && d)) ≡ ((a && c) && (b && d))
four true true c d = refl
four true false true d = refl
four true false false d = refl
four false b c d = refl

apart : (q : Question) (r : Restriction) → fits q r ≡ (is_for q.target q.attributes r && allows_asked q.asked r)
apart q (to_names style name) = and_true (fits q (to_names style name))
apart q (to_filter filter) = and_true (fits q (to_filter filter))
apart q (to_attrs items) = refl
apart q (to_open what) = refl

all_apart : (q : Question) (rs : List Restriction) → list_all (fits q) rs ≡ (list_all (is_for q.target q.attributes) rs && list_all (allows_asked q.asked) rs)
all_apart q [] = refl
all_apart q (r ∷ rs) =
    (λ i. apart q r i && all_apart q rs i)
    ∙ four (is_for q.target q.attributes r) (allows_asked q.asked r) (list_all (is_for q.target q.attributes) rs) (list_all (allows_asked q.asked) rs)

-- ---- a rule for questions about a target with these attributes

no : (b : Bool) → not b ≡ true → b ≡ false
no true e = sym e
no false e = refl

module _ (q : Question) (rule : AccessRule) (target : DnKeys) (attributes : StoredAttributes) (same : target ≡ q.target) (alike : attributes ≡ q.attributes) where
  pub fits_by_parts : (rule_is_for target attributes rule && rule_allows_asked q.asked rule) ≡ rule_fits q rule
  fits_by_parts = (λ i. rule_is_for (same i) (alike i) rule && rule_allows_asked q.asked rule) ∙ sym (all_apart q rule.what)

  -- one that is known to be for the target fits if it is for what is asked
  pub fits_if_asked : agrees known.Yes (rule_is_for target attributes rule) ≡ true → rule_allows_asked q.asked rule ≡ rule_fits q rule
  fits_if_asked is = sym (ap (λ b. b && rule_allows_asked q.asked rule) is) ∙ fits_by_parts

  pub fits_no_other : agrees known.No (rule_is_for target attributes rule) ≡ true → false ≡ rule_fits q rule
  fits_no_other is_not = sym (ap (λ b. b && rule_allows_asked q.asked rule) (no (rule_is_for target attributes rule) is_not)) ∙ fits_by_parts
