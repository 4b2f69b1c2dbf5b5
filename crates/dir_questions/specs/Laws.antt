-- What holds of every file of questions: its answers are those of slapacl, and a file that is written with them is answered as it expects.
use Rattle.std.specs.Prelude.{◌≡◌, ℕ, ◌≤◌, ◌++◌, All, false, List, length, map, codes, option_map, Result, Ok}
use Rattle.std.specs.List.{flat_map}
use Rattle.dir_names.specs.Results.{and_then}
use Rattle.dir_names.specs.declared.schema.TypeRow.{TypeRow}
use Rattle.dir_ldif.specs.SoundRecords.{IsBytes}
use Rattle.dir_tree.specs.Dir.{Dir}
use Rattle.dir_acl.specs.Rules.{Configuration}
use Rattle.dir_tools.specs.declared.acl.Question.{Question}
use Rattle.dir_tools.specs.declared.fault.ToolFault.{ToolFault}
use Rattle.dir_tools.specs.AccessReport.{Configured, access_terms, acl_report_of, configured, target_of}
use Rattle.dir_tools.specs.CopyOf.{copy_of}
use Rattle.dir_tools.specs.Headline.{ok_or_bad_copy}
use Rattle.dir_questions.specs.Answers.{Answered, answers_to, written_questions}
use Rattle.dir_questions.specs.Questions.{AskedWord, GivenName, QuestionBlock, question_blocks}

-- the question of a block, as slapacl is asked it on its command line
abbrev pub question_of : QuestionBlock → Question
question_of b = record {
  base = b.base.text;
  authc = option_map (λ (given : GivenName). given.text) b.requester;
  words = map (λ (asked : AskedWord). asked.text) b.words;
  fake = b.fake;
  verbose = false;
}

-- `WORD: ANSWER`
abbrev pub report_line : Answered → List ℕ
report_line a = a.0.text ++ codes ": " ++ a.1 ++ codes "\n"

-- the report that has these answers
abbrev pub report_with : List Answered → Result (List ℕ) ToolFault
report_with answers = Ok (flat_map report_line answers)

-- what slapacl answers to the question of a block alone: that there is no such entry, or the report with the block's answers
abbrev pub IsReportOf : Configured → Dir → QuestionBlock → Result (List ℕ) ToolFault → Type 0
IsReportOf found d b report = report ≡ and_then (target_of b.fake d b.base.name.1) (λ target. report_with (answers_to found.configuration d b))

-- a law: the answers to a block are what slapacl reports for its question alone
abbrev pub AnswersAreReports : Type 0
AnswersAreReports = (rows : List TypeRow) (config copy text : List ℕ) (found : Configured) (d : Dir) (blocks : List QuestionBlock)
    → configured rows config ≡ Ok found → ok_or_bad_copy (copy_of found.rows found.configuration.suffix copy) ≡ Ok d → question_blocks found.rows text ≡ Ok blocks
    → All (λ b. IsReportOf found d b (acl_report_of (access_terms rows (question_of b)) config copy)) blocks

-- ---- a file that is written with its answers, read again

-- the answers that a block expects, and those that it has
abbrev pub expected_in : QuestionBlock → List (List ℕ)
expected_in b = map (λ (asked : AskedWord). asked.expected) b.words

abbrev pub answered_in : Configuration → Dir → QuestionBlock → List (List ℕ)
answered_in c d b = map (λ (answered : Answered). answered.1) (answers_to c d b)

-- what was written reads as blocks that expect what was answered; they are answered so, and written they are the same text, byte for byte
pub record AreFixed (rows : List TypeRow) (c : Configuration) (d : Dir) (blocks : List QuestionBlock) : Type 0 where
  pub again : List QuestionBlock
  pub reads : question_blocks rows (written_questions c d blocks) ≡ Ok again
  pub expects : map expected_in again ≡ map (answered_in c d) blocks
  pub answered : map (answered_in c d) again ≡ map (answered_in c d) blocks
  pub same : written_questions c d again ≡ written_questions c d blocks

-- a law: under the same configuration and directory, a file of questions that is written with its answers, and is not too long, is answered as it
-- expects, and is written again as it is
abbrev pub AnswersAreFixed : Type 0
AnswersAreFixed = (rows : List TypeRow) (c : Configuration) (d : Dir) (text : List ℕ) (blocks : List QuestionBlock)
    → IsBytes text → question_blocks rows text ≡ Ok blocks → length (written_questions c d blocks) ≤ 16777216 → AreFixed rows c d blocks
