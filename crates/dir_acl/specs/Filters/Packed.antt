-- The filter that packed steps make of their tests. Both come the last one first.
use Rattle.std.specs.Prelude.{Bool, true, false, List, [], ◌∷◌, reverse}
use Rattle.dir_acl.specs.declared.filter.Filter.{Filter}
use Rattle.dir_acl.specs.declared.filter.Step.{Step}
use Rattle.dir_acl.specs.declared.filter.Step.TheVariants as step
use Rattle.dir_acl.specs.declared.filter.Test.{Test}
use Rattle.dir_acl.specs.Filters.{Tree, Trees, conjunction, disjunction, negation, test, none, trees_of}

-- the filters that are complete, the last one first: those of the innermost list that is open, and those of each list around it
pub record Complete : Type 0 where
  pub trees : List Tree
  pub around : List (List Tree)

abbrev pub no_trees : Complete
no_trees = record { trees = []; around = [] }

-- those outside of the innermost list
abbrev pub outer : List (List Tree) → Complete
outer [] = no_trees
outer (ts ∷ around) = record { trees = ts; around = around }

-- the last filter, or one that is always True
abbrev pub head_tree : List Tree → Tree
head_tree [] = conjunction none
head_tree (t ∷ ts) = t

abbrev pub tail_trees : List Tree → List Tree
tail_trees [] = []
tail_trees (t ∷ ts) = ts

abbrev pub last_tree : Complete → Tree
last_tree c = head_tree c.trees

abbrev pub before_last : Complete → Complete
before_last c = record { trees = tail_trees c.trees; around = c.around }

-- ---- steps

abbrev pub with_tree : Tree → Complete → Complete
with_tree t c = record { trees = t ∷ c.trees; around = c.around }

abbrev pub list_begun : Complete → Complete
list_begun c = record { trees = []; around = c.trees ∷ c.around }

abbrev pub list_ended : (Trees → Tree) → Complete → Complete
list_ended kind c = with_tree (kind (trees_of (reverse c.trees))) (outer c.around)

abbrev pub last_negated : Complete → Complete
last_negated c = with_tree (negation (last_tree c)) (before_last c)

abbrev pub complete : List Step → List Test → Complete
complete [] tests = no_trees
complete (step.Begin ∷ steps) tests = list_begun (complete steps tests)
complete (step.Test ∷ steps) [] = with_tree (conjunction none) (complete steps [])
complete (step.Test ∷ steps) (t ∷ tests) = with_tree (test t) (complete steps tests)
complete (step.Not ∷ steps) tests = last_negated (complete steps tests)
complete (step.And ∷ steps) tests = list_ended conjunction (complete steps tests)
complete (step.Or ∷ steps) tests = list_ended disjunction (complete steps tests)

abbrev pub tree_of : Filter → Tree
tree_of filter = last_tree (complete filter.steps.items filter.tests.items)

-- whether the innermost list has a filter
abbrev pub has_filter : List Step → Bool
has_filter [] = false
has_filter (step.Begin ∷ steps) = false
has_filter (step.Test ∷ steps) = true
has_filter (step.Not ∷ steps) = true
has_filter (step.And ∷ steps) = true
has_filter (step.Or ∷ steps) = true
