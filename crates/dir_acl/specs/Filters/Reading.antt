-- The filter that a text spells, computed from left to right with a stack of the filters that are still open.
use Rattle.std.specs.Prelude.{ℕ, cond, ◌==◌, nat_lt, List, [], ◌∷◌, ◌++◌, length, Option, Some, None, Result, Ok, Err}
use Rattle.dir_names.specs.Results.{and_then}
use Rattle.dir_names.specs.declared.schema.TypeRow.{TypeRow}
use Rattle.dir_acl.specs.declared.fault.FilterFault.{FilterFault}
use Rattle.dir_acl.specs.declared.fault.FilterFault.TheVariants.{BadFilter, TooDeep}
use Rattle.dir_acl.specs.declared.filter.Test.{Test}
use Rattle.dir_acl.specs.Filters.{Tree, conjunction, disjunction, negation, test, trees_of, in_parentheses}
use Rattle.dir_acl.specs.Signs.{open_parenthesis, close_parenthesis, ampersand, vertical_bar, exclamation_mark}
use Rattle.dir_acl.specs.Tests.{test_of}

-- a filter that is still open, with the filters in it that are complete
pub data Open : Type 0 where
  open_and : List Tree → Open
  open_or : List Tree → Open
  open_not : Open

-- where the reader is: before a filter, after its `(`, in a test after these bytes, between the filters of a list, after the filter of a negation, after the whole filter
pub data Place : Type 0 where
  before_filter : Place
  after_parenthesis : Place
  in_test : List ℕ → Place
  in_list : Place
  in_negation : Tree → Place
  at_end : Tree → Place

-- the filters that are open, innermost first, and the place
pub record State : Type 0 where
  pub stack : List Open
  pub place : Place

-- a complete filter in those that are open
abbrev pub with_filter : Tree → List Open → State
with_filter t [] = record { stack = []; place = at_end t }
with_filter t (open_and ts ∷ stack) = record { stack = open_and (ts ++ t ∷ []) ∷ stack; place = in_list }
with_filter t (open_or ts ∷ stack) = record { stack = open_or (ts ++ t ∷ []) ∷ stack; place = in_list }
with_filter t (open_not ∷ stack) = record { stack = stack; place = in_negation t }

-- the `)` of a list
abbrev pub after_list : List Open → Result State FilterFault
after_list [] = Err BadFilter
after_list (open_and ts ∷ stack) = Ok (with_filter (conjunction (trees_of ts)) stack)
after_list (open_or ts ∷ stack) = Ok (with_filter (disjunction (trees_of ts)) stack)
after_list (open_not ∷ stack) = Err BadFilter

-- a `(`: at most 64 may be open
abbrev pub one_deeper : List Open → Result State FilterFault
one_deeper stack = cond (nat_lt (length stack) 64) (Ok (record { stack = stack; place = after_parenthesis })) (Err TooDeep)

-- the `)` of a test
abbrev pub after_test : List Open → Option Test → Result State FilterFault
after_test stack None = Err BadFilter
after_test stack (Some t) = Ok (with_filter (test t) stack)

abbrev pub is_complete : Place → Result Tree FilterFault
is_complete before_filter = Err BadFilter
is_complete after_parenthesis = Err BadFilter
is_complete (in_test item) = Err BadFilter
is_complete in_list = Err BadFilter
is_complete (in_negation t) = Err BadFilter
is_complete (at_end t) = Ok t

abbrev pub at_start : State
at_start = record { stack = []; place = before_filter }

module _ (rows : List TypeRow) where
  -- a byte of a test
  abbrev pub step_in_test : List Open → List ℕ → ℕ → Result State FilterFault
  step_in_test stack item b = cond (b == close_parenthesis) (after_test stack (test_of rows item)) (Ok (record { stack = stack; place = in_test (item ++ b ∷ []) }))

  -- the first byte after a `(`
  abbrev pub step_after_parenthesis : List Open → ℕ → Result State FilterFault
  step_after_parenthesis stack b =
      cond (b == ampersand) (Ok (record { stack = open_and [] ∷ stack; place = in_list }))
      (cond (b == vertical_bar) (Ok (record { stack = open_or [] ∷ stack; place = in_list }))
      (cond (b == exclamation_mark) (Ok (record { stack = open_not ∷ stack; place = before_filter }))
      (step_in_test stack [] b)))

  abbrev pub step_at : List Open → Place → ℕ → Result State FilterFault
  step_at stack before_filter b = cond (b == open_parenthesis) (one_deeper stack) (Err BadFilter)
  step_at stack after_parenthesis b = step_after_parenthesis stack b
  step_at stack (in_test item) b = step_in_test stack item b
  step_at stack in_list b = cond (b == open_parenthesis) (one_deeper stack) (cond (b == close_parenthesis) (after_list stack) (Err BadFilter))
  step_at stack (in_negation t) b = cond (b == close_parenthesis) (Ok (with_filter (negation t) stack)) (Err BadFilter)
  step_at stack (at_end t) b = Err BadFilter

  abbrev pub filter_from : State → List ℕ → Result Tree FilterFault
  filter_from state [] = is_complete state.place
  filter_from state (b ∷ bs) = and_then (step_at state.stack state.place b) (λ next. filter_from next bs)

  -- the filter that a text spells, or the first fault
  abbrev pub filter_of : List ℕ → Result Tree FilterFault
  filter_of text = filter_from at_start (in_parentheses text)
