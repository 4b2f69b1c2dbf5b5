-- The rule that the arguments of an `access` directive give: `to <what>+ [by <who>+ [<access>] [<control>]]+` (slapd.access(5)). A word that is not of one of
-- the supported forms in its place is refused, never passed over.
use Rattle.std.specs.Prelude.{ℕ, Bool, cond, List, [], ◌∷◌, ◌++◌, codes, Option, Some, None, Result, Ok, Err}
use Rattle.dir_names.specs.Results.{and_then}
use Rattle.dir_names.specs.declared.schema.TypeRow.{TypeRow}
use Rattle.dir_acl.specs.declared.access.Control.{Control}
use Rattle.dir_acl.specs.declared.access.Control.TheVariants.{Stop}
use Rattle.dir_acl.specs.declared.access.Edit.{Edit}
use Rattle.dir_acl.specs.declared.access.Who.{Who}
use Rattle.dir_acl.specs.declared.fault.ConfigCause.{ConfigCause}
use Rattle.dir_acl.specs.declared.fault.ConfigCause.TheVariants.{BadDirective, Unsupported}
use Rattle.dir_conf_text.specs.Keywords.{is_word}
use Rattle.dir_acl.specs.Config.Permissions.{control_of, edit_of, no_edit}
use Rattle.dir_acl.specs.Config.Whats.{with_what}
use Rattle.dir_acl.specs.Config.Whos.{who_of}
use Rattle.dir_acl.specs.Rules.{AccessRule, Restriction}

-- where the reader is, with what it has read
pub data Place : Type 0 where
  -- before `to`
  before_to : Place
  -- before the first word of the <what>
  before_what : Place
  -- after words of the <what>
  in_what : List Restriction → Place
  -- after `by`; the rule has the clauses before it
  before_who : AccessRule → Place
  -- after words of the <who>
  in_who : AccessRule → List Who → Place
  -- after the <access>
  after_access : AccessRule → List Who → Edit → Place
  -- after the <control>
  after_control : AccessRule → Place

abbrev pub is_by : List ℕ → Bool
is_by word = is_word word (codes "by")

abbrev pub with_clause : AccessRule → List Who → Edit → Control → AccessRule
with_clause rule whos edit control = record rule { clauses = rule.clauses ++ (record { who = whos; edit = edit; control = control }) ∷ [] }

-- ---- after a clause's <who> and <access>

abbrev pub by_control : AccessRule → List Who → Edit → Option Control → Result Place ConfigCause
by_control rule whos edit None = Err Unsupported
by_control rule whos edit (Some control) = Ok (after_control (with_clause rule whos edit control))

-- `by`, which ends the clause with the control `stop`, or a <control>
abbrev pub by_or_control : AccessRule → List Who → Edit → List ℕ → Result Place ConfigCause
by_or_control rule whos edit word = cond (is_by word) (Ok (before_who (with_clause rule whos edit Stop))) (by_control rule whos edit (control_of word))

abbrev pub after_whos : AccessRule → List Who → Option Edit → List ℕ → Result Place ConfigCause
after_whos rule whos None word = by_or_control rule whos no_edit word
after_whos rule whos (Some edit) word = Ok (after_access rule whos edit)

-- a word after those of a <who>: one more, or what comes after them
abbrev pub next_who : AccessRule → List Who → List ℕ → Option Who → Result Place ConfigCause
next_who rule whos word None = after_whos rule whos (edit_of word) word
next_who rule whos word (Some who) = Ok (in_who rule (whos ++ who ∷ []))

-- the first word of a <who>
abbrev pub first_who : AccessRule → Option Who → Result Place ConfigCause
first_who rule None = Err Unsupported
first_who rule (Some who) = Ok (in_who rule (who ∷ []))

-- ---- words

abbrev pub after_what : List TypeRow → List Restriction → List ℕ → Result Place ConfigCause
after_what rows whats word = and_then (with_what rows whats word) (λ more. Ok (in_what more))

abbrev pub by_or_what : List TypeRow → List Restriction → List ℕ → Result Place ConfigCause
by_or_what rows whats word = cond (is_by word) (Ok (before_who (record { what = whats; clauses = [] }))) (after_what rows whats word)

abbrev pub after_word : List TypeRow → Place → List ℕ → Result Place ConfigCause
after_word rows before_to word = cond (is_word word (codes "to")) (Ok before_what) (Err BadDirective)
after_word rows before_what word = after_what rows [] word
after_word rows (in_what whats) word = by_or_what rows whats word
after_word rows (before_who rule) word = and_then (who_of rows word) (λ who. first_who rule who)
after_word rows (in_who rule whos) word = and_then (who_of rows word) (λ who. next_who rule whos word who)
after_word rows (after_access rule whos edit) word = by_or_control rule whos edit word
after_word rows (after_control rule) word = cond (is_by word) (Ok (before_who rule)) (Err Unsupported)

-- an argument with an open quote or a final backslash is a fault wherever it is
abbrev pub after_argument : List TypeRow → Place → Option (List ℕ) → Result Place ConfigCause
after_argument rows place None = Err BadDirective
after_argument rows place (Some word) = after_word rows place word

-- ---- the whole rule

-- the line may end where a clause is complete, but for its <access> and <control>
abbrev pub at_end : Place → Result AccessRule ConfigCause
at_end before_to = Err BadDirective
at_end before_what = Err BadDirective
at_end (in_what whats) = Err BadDirective
at_end (before_who rule) = Err BadDirective
at_end (in_who rule whos) = Ok (with_clause rule whos no_edit Stop)
at_end (after_access rule whos edit) = Ok (with_clause rule whos edit Stop)
at_end (after_control rule) = Ok rule

abbrev pub rule_from : List TypeRow → Place → List (Option (List ℕ)) → Result AccessRule ConfigCause
rule_from rows place [] = at_end place
rule_from rows place (argument ∷ arguments) = and_then (after_argument rows place argument) (λ next. rule_from rows next arguments)

abbrev pub access_rule_of : List TypeRow → List (Option (List ℕ)) → Result AccessRule ConfigCause
access_rule_of rows arguments = rule_from rows before_to arguments
