-- The first rule of a list that has a name.
use Rattle.std.proofs.Common.{◌≡◌, ℕ, ◌+◌, ◌<◌, true, false, cond, List, drop, get_or, length, map, Some, find, option_map, ap, ◌∙◌}
use Rattle.std.specs.Str.{str_eq_ignore_ascii_case}
use Rattle.std.proofs.lemmas.List.{drop_more}
use Rattle.dir_names.specs.declared.schema.rules.NamedRule.{NamedRule}
use Rattle.dir_names.specs.Inside.Rows.{named_rule}
use Rattle.dir_names.specs.Types.Adding.{rule_listed}

module _ (word : List ℕ) (rules : List NamedRule) (at : ℕ) (other : NamedRule) (inside : at < length rules) where
  abbrev one : NamedRule
  one = get_or rules at other

  first : rule_listed (map named_rule (drop at rules)) word ≡ option_map (λ p. p.1) (cond (str_eq_ignore_ascii_case one.name.now word) (Some (named_rule one)) (find (λ p. str_eq_ignore_ascii_case p.0 word) (map named_rule (drop (at + 1) rules))))
  first = ap (λ rs. rule_listed (map named_rule rs) word) (drop_more rules at other inside)

  pub first_is : str_eq_ignore_ascii_case one.name.now word ≡ true → rule_listed (map named_rule (drop at rules)) word ≡ Some one.rule
  first_is e = first ∙ ap (λ b. option_map (λ p. p.1) (cond b (Some (named_rule one)) (find (λ p. str_eq_ignore_ascii_case p.0 word) (map named_rule (drop (at + 1) rules))))) e

  pub first_is_not : str_eq_ignore_ascii_case one.name.now word ≡ false → rule_listed (map named_rule (drop at rules)) word ≡ rule_listed (map named_rule (drop (at + 1) rules)) word
  first_is_not e = first ∙ ap (λ b. option_map (λ p. p.1) (cond b (Some (named_rule one)) (find (λ p. str_eq_ignore_ascii_case p.0 word) (map named_rule (drop (at + 1) rules))))) e
