-- Truth over a list of filters, one after the other, from the last to the first.
use Rattle.std.proofs.Common.{◌≡◌, Bool, true, false, cond, List, [], ◌∷◌, ◌++◌, reverse, refl, sym, ap, ◌∙◌}
use mathlib.Core.List.{reverse-cons}
use Rattle.std.specs.Prelude.{◌||◌}
use Rattle.std.specs.List.{list_any}
use Rattle.dir_acl.specs.declared.filter.truth.Truth.{Truth}
use Rattle.dir_acl.specs.declared.filter.truth.Truth.TheVariants.{True, False, Undefined}
use Rattle.dir_acl.specs.declared.filter.Step.{Step}
use Rattle.dir_acl.specs.declared.filter.Test.{Test}
use Rattle.dir_tree.specs.Content.{StoredAttributes}
use Rattle.dir_acl.specs.Filters.{Tree, trees_of}
use Rattle.dir_acl.specs.Filters.Packed.{Complete, before_last, complete, has_filter, last_tree}
use Rattle.dir_acl.proofs.Packing.{has_no_trees, has_trees}
use Rattle.dir_acl.specs.Truth.{tree_truth, truths, all_of, any_of, both, either, is_false, is_true, is_undefined}

by_tests : (t : Truth) (f u : Bool) → cond (is_false t || f) False (cond (is_undefined t || u) Undefined True) ≡ both t (cond f False (cond u Undefined True))
by_tests True f u = refl
by_tests False f u = refl
by_tests Undefined true true = refl
by_tests Undefined true false = refl
by_tests Undefined false true = refl
by_tests Undefined false false = refl

pub all_of_more : (t : Truth) (ts : List Truth) → all_of (t ∷ ts) ≡ both t (all_of ts)
all_of_more t ts = by_tests t (list_any is_false ts) (list_any is_undefined ts)

by_tests_any : (t : Truth) (h u : Bool) → cond (is_true t || h) True (cond (is_undefined t || u) Undefined False) ≡ either t (cond h True (cond u Undefined False))
by_tests_any True h u = refl
by_tests_any False h u = refl
by_tests_any Undefined true true = refl
by_tests_any Undefined true false = refl
by_tests_any Undefined false true = refl
by_tests_any Undefined false false = refl

pub any_of_more : (t : Truth) (ts : List Truth) → any_of (t ∷ ts) ≡ either t (any_of ts)
any_of_more t ts = by_tests_any t (list_any is_true ts) (list_any is_undefined ts)

pub both_joined : (a b c : Truth) → both (both a b) c ≡ both a (both b c)
both_joined True b c = refl
both_joined False b c = refl
both_joined Undefined True c = refl
both_joined Undefined False c = refl
both_joined Undefined Undefined True = refl
both_joined Undefined Undefined False = refl
both_joined Undefined Undefined Undefined = refl

pub either_joined : (a b c : Truth) → either (either a b) c ≡ either a (either b c)
either_joined True b c = refl
either_joined False b c = refl
either_joined Undefined True c = refl
either_joined Undefined False c = refl
either_joined Undefined Undefined True = refl
either_joined Undefined Undefined False = refl
either_joined Undefined Undefined Undefined = refl

pub both_true : (a : Truth) → both a True ≡ a
both_true True = refl
both_true False = refl
both_true Undefined = refl

pub either_false : (a : Truth) → either a False ≡ a
either_false True = refl
either_false False = refl
either_false Undefined = refl

-- of a list with one more at its end
all_of_last : (ts : List Truth) (t : Truth) → all_of (ts ++ t ∷ []) ≡ both (all_of ts) t
all_of_last [] t = all_of_more t [] ∙ both_true t
all_of_last (x ∷ ts) t = all_of_more x (ts ++ t ∷ []) ∙ ap (both x) (all_of_last ts t) ∙ sym (both_joined x (all_of ts) t) ∙ ap (λ all. both all t) (sym (all_of_more x ts))

any_of_last : (ts : List Truth) (t : Truth) → any_of (ts ++ t ∷ []) ≡ either (any_of ts) t
any_of_last [] t = any_of_more t [] ∙ either_false t
any_of_last (x ∷ ts) t = any_of_more x (ts ++ t ∷ []) ∙ ap (either x) (any_of_last ts t) ∙ sym (either_joined x (any_of ts) t) ∙ ap (λ any. either any t) (sym (any_of_more x ts))

module _ (attributes : StoredAttributes) where
  truths_last : (ts : List Tree) (t : Tree) → truths attributes (trees_of (ts ++ t ∷ [])) ≡ truths attributes (trees_of ts) ++ tree_truth attributes t ∷ []
  truths_last [] t = refl
  truths_last (x ∷ ts) t = ap (λ more. tree_truth attributes x ∷ more) (truths_last ts t)

  -- of trees, the last one first
  abbrev pub all_truth : List Tree → Truth
  all_truth ts = all_of (truths attributes (trees_of (reverse ts)))

  abbrev pub any_truth : List Tree → Truth
  any_truth ts = any_of (truths attributes (trees_of (reverse ts)))

  all_truth_first : (t : Tree) (ts : List Tree) → all_truth (t ∷ ts) ≡ both (all_truth ts) (tree_truth attributes t)
  all_truth_first t ts =
      ap (λ trees. all_of (truths attributes (trees_of trees))) (reverse-cons t ts)
      ∙ ap all_of (truths_last (reverse ts) t)
      ∙ all_of_last (truths attributes (trees_of (reverse ts))) (tree_truth attributes t)

  any_truth_first : (t : Tree) (ts : List Tree) → any_truth (t ∷ ts) ≡ either (any_truth ts) (tree_truth attributes t)
  any_truth_first t ts =
      ap (λ trees. any_of (truths attributes (trees_of trees))) (reverse-cons t ts)
      ∙ ap any_of (truths_last (reverse ts) t)
      ∙ any_of_last (truths attributes (trees_of (reverse ts))) (tree_truth attributes t)

  -- the last of the filters that steps make, and those before it
  pub all_with_last : (steps : List Step) (tests : List Test) (rest : Complete) (t all : Truth) → has_filter steps ≡ true → rest ≡ before_last (complete steps tests)
      → t ≡ tree_truth attributes (last_tree (complete steps tests)) → both (all_truth rest.trees) (both t all) ≡ both (all_truth (complete steps tests).trees) all
  all_with_last steps tests rest t all h r e =
      ap (λ c. both (all_truth c.trees) (both t all)) r
      ∙ ap (λ t. both (all_truth (before_last (complete steps tests)).trees) (both t all)) e
      ∙ sym (both_joined (all_truth (before_last (complete steps tests)).trees) (tree_truth attributes (last_tree (complete steps tests))) all)
      ∙ ap (λ first. both first all) (sym (all_truth_first (last_tree (complete steps tests)) (before_last (complete steps tests)).trees))
      ∙ ap (λ trees. both (all_truth trees) all) (sym (has_trees steps tests h))

  pub any_with_last : (steps : List Step) (tests : List Test) (rest : Complete) (t any : Truth) → has_filter steps ≡ true → rest ≡ before_last (complete steps tests)
      → t ≡ tree_truth attributes (last_tree (complete steps tests)) → either (any_truth rest.trees) (either t any) ≡ either (any_truth (complete steps tests).trees) any
  any_with_last steps tests rest t any h r e =
      ap (λ c. either (any_truth c.trees) (either t any)) r
      ∙ ap (λ t. either (any_truth (before_last (complete steps tests)).trees) (either t any)) e
      ∙ sym (either_joined (any_truth (before_last (complete steps tests)).trees) (tree_truth attributes (last_tree (complete steps tests))) any)
      ∙ ap (λ first. either first any) (sym (any_truth_first (last_tree (complete steps tests)) (before_last (complete steps tests)).trees))
      ∙ ap (λ trees. either (any_truth trees) any) (sym (has_trees steps tests h))

  -- where there is none, the truth is that of those that were taken
  pub all_without : (steps : List Step) (tests : List Test) (all : Truth) → has_filter steps ≡ false → both (all_truth (complete steps tests).trees) all ≡ all
  all_without steps tests all h = ap (λ trees. both (all_truth trees) all) (has_no_trees steps tests h)

  pub any_without : (steps : List Step) (tests : List Test) (any : Truth) → has_filter steps ≡ false → either (any_truth (complete steps tests).trees) any ≡ any
  any_without steps tests any h = ap (λ trees. either (any_truth trees) any) (has_no_trees steps tests h)

pub ruleset truth_steps = (all_with_last, any_with_last, all_without, any_without)
