-- A step more, and what steps make, where they are in the order of the text.
use Rattle.std.proofs.Common.{◌≡◌, true, false, List, [], ◌∷◌, ◌++◌, reverse, refl, ap, ◌∙◌}
use Rattle.std.proofs.lemmas.List.{reverse-append}
use mathlib.Core.List.{reverse-cons}
use Rattle.dir_acl.specs.declared.filter.Step.{Step}
use Rattle.dir_acl.specs.declared.filter.Step.TheVariants as step
use Rattle.dir_acl.specs.declared.filter.Test.{Test}
use Rattle.dir_acl.specs.Filters.Packed.{before_last, complete, has_filter, last_tree}

pub reverse_last : {A : Type 0} → (xs : List A) (x : A) → reverse (xs ++ x ∷ []) ≡ x ∷ reverse xs
reverse_last xs x = reverse-append xs (x ∷ [])

-- whether the steps make a filter
pub has_trees : (steps : List Step) (tests : List Test) → has_filter steps ≡ true → (complete steps tests).trees ≡ last_tree (complete steps tests) ∷ (before_last (complete steps tests)).trees
has_trees [] tests h = absurd (cc)
has_trees (step.Begin ∷ steps) tests h = absurd (cc)
has_trees (step.Test ∷ steps) [] h = refl
has_trees (step.Test ∷ steps) (t ∷ tests) h = refl
has_trees (step.Not ∷ steps) tests h = refl
has_trees (step.And ∷ steps) tests h = refl
has_trees (step.Or ∷ steps) tests h = refl

pub has_no_trees : (steps : List Step) (tests : List Test) → has_filter steps ≡ false → (complete steps tests).trees ≡ []
has_no_trees [] tests h = refl
has_no_trees (step.Begin ∷ steps) tests h = refl
has_no_trees (step.Test ∷ steps) tests h = absurd (cc)
has_no_trees (step.Not ∷ steps) tests h = absurd (cc)
has_no_trees (step.And ∷ steps) tests h = absurd (cc)
has_no_trees (step.Or ∷ steps) tests h = absurd (cc)

pub trees_in_order : (steps : List Step) (tests : List Test) → has_filter steps ≡ true
    → reverse (complete steps tests).trees ≡ reverse (before_last (complete steps tests)).trees ++ last_tree (complete steps tests) ∷ []
trees_in_order steps tests h = ap reverse (has_trees steps tests h) ∙ reverse-cons (last_tree (complete steps tests)) (before_last (complete steps tests)).trees

pub ruleset packing_steps = (reverse_last, trees_in_order)
