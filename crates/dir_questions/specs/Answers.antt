-- The answers to a file of questions: what slapacl reports for each of them alone, the report on all, and the file written with them.
use Rattle.std.specs.Prelude.{ℕ, Bool, true, false, cond, List, [], ◌++◌, map, codes, Option, Some, None, option_map, Result, Ok, Err}
use Rattle.std.specs.List.{count_by, flat_map}
use Rattle.std.specs.Fmt.{decimal}
use Rattle.std.specs.Str.{bytes_eq}
use Rattle.dir_names.specs.Names.Printing.{printed_name}
use Rattle.dir_ldif.specs.LineText.{written_line}
use Rattle.dir_tree.specs.Content.{Content}
use Rattle.dir_tree.specs.Dir.{Dir}
use Rattle.dir_acl.specs.Rules.{Configuration}
use Rattle.dir_tools.specs.declared.fault.ToolFault.{ToolFault}
use Rattle.dir_tools.specs.AccessReport.{NamedKey, QuestionParts, answer_text, held_by, request_for, target_of}
use Rattle.dir_questions.specs.declared.report.Outcome.{Outcome}
use Rattle.dir_questions.specs.declared.report.Outcome.TheVariants.{Asked, Expected, Otherwise}
use Rattle.dir_questions.specs.declared.report.Tally.{Tally}
use Rattle.dir_questions.specs.Questions.{AskedWord, GivenName, QuestionBlock, no_such_entry}

-- ---- the answers

-- what the parts of the question say
abbrev pub parts_of_block : QuestionBlock → QuestionParts
parts_of_block b = record { base = b.base.name.1; requester = option_map (λ (given : GivenName). given.name) b.requester; words = map (λ (asked : AskedWord). asked.word) b.words }

-- the answer to a word: where there is such an entry, or it is made up, of what the requester holds on it
abbrev pub answer_on : Configuration → Dir → QuestionBlock → Result (Option Content) ToolFault → AskedWord → List ℕ
answer_on c d b (Ok target) asked = answer_text asked.word.access (held_by c d (request_for (parts_of_block b) target asked.word.asked))
answer_on c d b (Err why) asked = no_such_entry

-- a word with its answer
abbrev pub Answered : Type 0
Answered = AskedWord × List ℕ

abbrev pub answered_on : Configuration → Dir → QuestionBlock → Result (Option Content) ToolFault → AskedWord → Answered
answered_on c d b target asked = (asked, answer_on c d b target asked)

-- the words of a block in their order, each with its answer
abbrev pub answers_to : Configuration → Dir → QuestionBlock → List Answered
answers_to c d b = map (answered_on c d b (target_of b.fake d b.base.name.1)) b.words

-- ---- the report

-- whether the answer to a word is only asked for, or as expected, or otherwise
abbrev pub outcome_of : Answered → Outcome
outcome_of a = cond (bytes_eq a.0.expected []) Asked (cond (bytes_eq a.0.expected a.1) Expected Otherwise)

-- `line N: WORD: ANSWER`
abbrev pub answered_text : Answered → List ℕ
answered_text a = codes "line " ++ decimal a.0.line ++ codes ": " ++ a.0.text ++ codes ": " ++ a.1

-- the line of an answer. One that is as expected, or only asked for, is told in a verbose report alone
abbrev pub line_by : Outcome → Bool → Answered → List ℕ
line_by Asked verbose a = cond verbose (answered_text a ++ codes "\n") []
line_by Expected verbose a = cond verbose (answered_text a ++ codes ", as expected\n") []
line_by Otherwise verbose a = answered_text a ++ codes ", expected " ++ a.0.expected ++ codes "\n"

abbrev pub answer_line : Bool → Answered → List ℕ
answer_line verbose a = line_by (outcome_of a) verbose a

-- how many outcomes are these
abbrev pub is_outcome : Outcome → Outcome → Bool
is_outcome Asked Asked = true
is_outcome Expected Expected = true
is_outcome Otherwise Otherwise = true
is_outcome wanted other = false

abbrev pub count : Outcome → List Outcome → ℕ
count wanted outcomes = count_by (is_outcome wanted) outcomes

abbrev pub tally_of : List Outcome → Tally
tally_of outcomes = record { expected = count Expected outcomes; otherwise = count Otherwise outcomes; asked = count Asked outcomes }

abbrev pub tally_line : Tally → List ℕ
tally_line tally =
    codes "as expected " ++ decimal tally.expected ++ codes ", otherwise " ++ decimal tally.otherwise ++ codes ", asked " ++ decimal tally.asked ++ codes "\n"

abbrev pub all_answers : Configuration → Dir → List QuestionBlock → List Answered
all_answers c d blocks = flat_map (answers_to c d) blocks

abbrev pub questions_report : Bool → Configuration → Dir → List QuestionBlock → List ℕ
questions_report verbose c d blocks = flat_map (answer_line verbose) (all_answers c d blocks) ++ tally_line (tally_of (map outcome_of (all_answers c d blocks)))

-- ---- the file written with its answers

abbrev pub named_line : List ℕ → NamedKey → List ℕ
named_line word name = written_line word (printed_name name.0)

-- nobody has no line
abbrev pub requester_line : Option GivenName → List ℕ
requester_line None = []
requester_line (Some given) = named_line (codes "authcDN") given.name

abbrev pub fake_line : Bool → List ℕ
fake_line false = []
fake_line true = written_line (codes "fake") (codes "true")

abbrev pub answered_line : Answered → List ℕ
answered_line a = written_line a.0.text a.1

-- a block with its answers, and an empty line
abbrev pub block_text : QuestionBlock → List Answered → List ℕ
block_text b answers = requester_line b.requester ++ fake_line b.fake ++ named_line (codes "dn") b.base.name ++ flat_map answered_line answers ++ codes "\n"

-- no comments: a file that was written is the same when it is written again
abbrev pub written_questions : Configuration → Dir → List QuestionBlock → List ℕ
written_questions c d blocks = flat_map (λ b. block_text b (answers_to c d b)) blocks
