-- The state of the reader of filters as its definition has it.
use Rattle.std.specs.Prelude.{List, [], ◌∷◌, reverse}
use Rattle.dir_acl.specs.declared.filter.reading.Open.{Open}
use Rattle.dir_acl.specs.declared.filter.reading.Open.TheVariants as level
use Rattle.dir_acl.specs.declared.filter.reading.Place.{Place}
use Rattle.dir_acl.specs.declared.filter.reading.Place.TheVariants as place
use Rattle.dir_acl.specs.declared.filter.reading.Progress.{Progress}
use Rattle.dir_acl.specs.declared.filter.reading.State.{State}
use Rattle.dir_acl.specs.Filters.Packed.{Complete, before_last, complete, last_tree, outer}
use Rattle.dir_acl.specs.Filters.Reading as read

abbrev pub complete_of : Progress → Complete
complete_of progress = complete (reverse progress.steps.items) (reverse progress.tests.items)

-- the filters that are open, the innermost first, with those that are complete in them
abbrev pub stack_over : Complete → List Open → List read.Open
stack_over c [] = []
stack_over c (level.And ∷ levels) = read.open_and (reverse c.trees) ∷ stack_over (outer c.around) levels
stack_over c (level.Or ∷ levels) = read.open_or (reverse c.trees) ∷ stack_over (outer c.around) levels
stack_over c (level.Not ∷ levels) = read.open_not ∷ stack_over c levels

abbrev pub stack_of : Progress → List read.Open
stack_of progress = stack_over (complete_of progress) (reverse progress.stack.items)

-- after the filter of a negation and after the whole one, this filter is the last that is complete
abbrev pub state_at : Complete → List Open → Place → read.State
state_at c levels place.BeforeFilter = record { stack = stack_over c levels; place = read.before_filter }
state_at c levels place.AfterParenthesis = record { stack = stack_over c levels; place = read.after_parenthesis }
state_at c levels (place.InTest item) = record { stack = stack_over c levels; place = read.in_test item.items }
state_at c levels place.InList = record { stack = stack_over c levels; place = read.in_list }
state_at c levels place.InNegation = record { stack = stack_over (before_last c) levels; place = read.in_negation (last_tree c) }
state_at c levels place.AtEnd = record { stack = stack_over (before_last c) levels; place = read.at_end (last_tree c) }

abbrev pub state_of : State → read.State
state_of state = state_at (complete_of state.progress) (reverse state.progress.stack.items) state.place
