-- Which argument a fault of a slapd.conf is about, and on which physical line that begins (slapd.conf(5), "GENERAL FORMAT"). `fault_argument`, at the end of
-- this page, is the whole. Arguments are read from left to right, so it is the last one that is read.
use Rattle.std.specs.Prelude.{ℕ, ◌+◌, ◌-◌, cond, ◌==◌, nat_lt, List, [], ◌∷◌, length, codes, Option, Some, None, is_some, option_map, Result, Ok, Err}
use Rattle.std.specs.List.{find, list_all, slice_get}
use Rattle.dir_names.specs.declared.schema.TypeRow.{TypeRow}
use Rattle.dir_acl.specs.declared.fault.ConfigCause.{ConfigCause}
use Rattle.dir_acl.specs.declared.fault.ConfigCause.TheVariants as cause
use Rattle.dir_acl.specs.declared.fault.ConfigFault.{ConfigFault}
use Rattle.dir_acl.specs.declared.deciding.FaultArgument.{FaultArgument}
use Rattle.dir_acl.specs.Config.{bounded_lines}
use Rattle.dir_acl.specs.Config.AccessRules.{Place, after_argument, before_to}
use Rattle.dir_conf_text.specs.PhysicalLines.{line_with_words}
use Rattle.dir_conf_text.specs.Text.{words_by}
use Rattle.dir_conf_text.specs.declared.text.ConfigLine.{ConfigLine}
use Rattle.dir_acl.specs.Notes.{after_keyword, begins_with}

-- ---- the argument: the last word of the line that is read. Words are counted from 0

-- how many of a rule's arguments are read: up to the one that is refused; all of them, where the line's end is
abbrev pub read_on : Result Place ConfigCause → (Place → ℕ) → ℕ
read_on (Ok next) rest = rest next
read_on (Err why) rest = 0

abbrev pub rule_read : List TypeRow → Place → List (Option (List ℕ)) → ℕ
rule_read rows place [] = 0
rule_read rows place (argument ∷ arguments) = read_on (after_argument rows place argument) (λ next. rule_read rows next arguments) + 1

-- of a second suffix the second name of the line, or else its last word
abbrev pub of_second_suffix : List (Option (List ℕ)) → ℕ
of_second_suffix words = cond (nat_lt 2 (length words)) 2 (length words - 1)

-- of another directive: the keyword, where it is out of its place or has too few or too many arguments; else the name after it
abbrev pub of_directive : ConfigCause → List (Option (List ℕ)) → ℕ
of_directive cause.BadDirective words = 0
of_directive cause.SecondSuffix words = of_second_suffix words
of_directive why words = 1

abbrev pub of_complete : List TypeRow → ConfigCause → List (Option (List ℕ)) → ℕ
of_complete rows why words = cond (begins_with words (codes "access")) (rule_read rows before_to (after_keyword words)) (of_directive why words)

-- an open quote or a final backslash is in the last word
abbrev pub of_bad_directive : List TypeRow → List (Option (List ℕ)) → ℕ
of_bad_directive rows words = cond (list_all is_some words) (of_complete rows cause.BadDirective words) (length words - 1)

-- a rule before the database is out of its place
abbrev pub deciding_word : List TypeRow → ConfigCause → List (Option (List ℕ)) → ℕ
deciding_word rows cause.GlobalAccess words = 0
deciding_word rows cause.BadDirective words = of_bad_directive rows words
deciding_word rows why words = of_complete rows why words

-- ---- the whole

-- the word at this place of line `n`
abbrev pub word_in : List ℕ → ℕ → ℕ → List (Option (List ℕ)) → Option FaultArgument
word_in text n at words = option_map (λ word. record { line = line_with_words (at + 1) n text; argument = word }) (slice_get words at)

-- the line of this number, if one that says something begins there
abbrev pub line_at : ℕ → List ConfigLine → Option ConfigLine
line_at n lines = find (λ line. line.number == n) lines

abbrev pub in_line : List TypeRow → List ℕ → ConfigFault → Option ConfigLine → Option FaultArgument
in_line rows text fault None = None
in_line rows text fault (Some line) = word_in text line.number (deciding_word rows fault.cause (words_by line.said)) (words_by line.said)

abbrev pub in_lines : List TypeRow → List ℕ → ConfigFault → Result (List ConfigLine) ConfigFault → Option FaultArgument
in_lines rows text fault (Ok lines) = in_line rows text fault (line_at fault.line lines)
in_lines rows text fault (Err why) = None

-- a fault without a line is about no argument, nor is one of a text that is too long, or of the definition of a type, which is not cut
abbrev pub fault_argument : List TypeRow → List ℕ → ConfigFault → Option FaultArgument
fault_argument rows text fault = in_lines rows text fault (bounded_lines text)
