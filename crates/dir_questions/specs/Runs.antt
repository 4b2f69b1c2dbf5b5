-- What `run_questions` answers over devices, which may tell their bytes or not.
use Rattle.std.specs.Prelude.{◌≡◌, ℕ, ⊤, Bool, true, not, List, map, Option, IfSome, Result, Ok, Err}
use Rattle.dir_ldif.specs.declared.faults.StreamFault.TheVariants as stream
use Rattle.dir_ldif.specs.Device.{HasFailed}
use Rattle.dir_ldif.specs.LogicalLines.{Line}
use Rattle.dir_names.specs.declared.schema.TypeRow.{TypeRow}
use Rattle.dir_names.specs.Results.{and_then}
use Rattle.dir_tree.specs.Dir.{Dir}
use Rattle.dir_acl.specs.Rules.{Configuration}
use Rattle.dir_tools.specs.declared.fault.Cause.TheVariants as cause
use Rattle.dir_tools.specs.declared.fault.Input.TheVariants as input
use Rattle.dir_tools.specs.declared.fault.Output.TheVariants as output
use Rattle.dir_tools.specs.declared.fault.ToolFault.{ToolFault}
use Rattle.dir_tools.specs.declared.fault.ToolFault.TheVariants as tool
use Rattle.dir_tools.specs.AccessAnswers.{IsConfigFault, IsTextOf}
use Rattle.dir_tools.specs.AccessReport.{Configured, configured, ok_or_bad_config}
use Rattle.dir_tools.specs.CompleteRecords.{CompleteRecordsLoad, GaveBytes, answers_after}
use Rattle.dir_tools.specs.CopyFaults.{IsBadCopy}
use Rattle.dir_tools.specs.CopyOf.{copy_of, empty_copy}
use Rattle.dir_tools.specs.Headline.{ok_or_bad_copy}
use Rattle.dir_tools.specs.StoppedReading.{KnownBytes}
use Rattle.dir_tools.specs.Writing.{TakenBytes, TookFile, TookNothing, TookPrefix, TookWhole}
use Rattle.dir_questions.specs.declared.fault.QuestionsFault.{QuestionsFault}
use Rattle.dir_questions.specs.declared.fault.QuestionsFault.TheVariants as fault
use Rattle.dir_questions.specs.declared.report.Tally.{Tally}
use Rattle.dir_questions.specs.declared.run.QuestionOptions.{QuestionOptions}
use Rattle.dir_questions.specs.Answers.{all_answers, outcome_of, questions_report, tally_of, written_questions}
use Rattle.dir_questions.specs.Questions.{QuestionBlock, question_blocks, read_lines}

-- ---- the whole

-- what a run gives: the questions with their answers, the report, and how many answers are as expected
pub record QuestionTexts : Type 0 where
  pub answers : List ℕ
  pub report : List ℕ
  pub tally : Tally

abbrev pub texts_on : QuestionOptions → Configuration → Dir → List QuestionBlock → QuestionTexts
texts_on options c d blocks = record {
  answers = written_questions c d blocks;
  report = questions_report options.verbose c d blocks;
  tally = tally_of (map outcome_of (all_answers c d blocks));
}

abbrev pub tool_faults : {A : Type 0} → Result A ToolFault → Result A QuestionsFault
tool_faults (Ok x) = Ok x
tool_faults (Err why) = Err (fault.Tool why)

-- the questions, then the copy, under a configuration and its types
abbrev pub texts_under : QuestionOptions → Configured → List ℕ → List ℕ → Result QuestionTexts QuestionsFault
texts_under options found questions copy =
    and_then (question_blocks found.rows questions) (λ blocks.
    and_then (tool_faults (ok_or_bad_copy (copy_of found.rows found.configuration.suffix copy))) (λ d.
    Ok (texts_on options found.configuration d blocks)))

-- the types that the configuration defines, then the rest of it, and all else under them: the texts, or the first fault
abbrev pub questions_of : List TypeRow → QuestionOptions → List ℕ → List ℕ → List ℕ → Result QuestionTexts QuestionsFault
questions_of rows options config questions copy =
    and_then (tool_faults (ok_or_bad_config (configured rows config))) (λ found. texts_under options found questions copy)

-- ---- over devices

-- the texts that the three sources have left, where they tell them
pub record QuestionSources : Type 0 where
  pub config : Option (List ℕ)
  pub questions : Option (List ℕ)
  pub copy : Option (List ℕ)

abbrev pub question_sources : Option (List ℕ) → Option (List ℕ) → Option (List ℕ) → QuestionSources
question_sources config questions copy = record { config = config; questions = questions; copy = copy }

-- the text of the questions, where it is known, asks this under these types
abbrev pub AsksThese : List TypeRow → Option (List ℕ) → List QuestionBlock → Type 0
AsksThese rows text blocks = IfSome text (λ text. question_blocks rows text ≡ Ok blocks)

-- the text of the configuration is that of this one, and the questions ask this under its types
pub record AreAsked (rows : List TypeRow) (config questions : Option (List ℕ)) : Type 0 where
  pub found : Configured
  pub reads : IsTextOf rows config found
  pub blocks : List QuestionBlock
  pub asked : AsksThese found.rows questions blocks

-- these are the texts on a directory that the copy is the text of
pub record AreStatedTexts (rows : List TypeRow) (options : QuestionOptions) (known : QuestionSources) (texts : QuestionTexts) : Type 0 where
  pub asking : AreAsked rows known.config known.questions
  pub directory : Dir
  pub copy : IfSome known.copy (λ text. copy_of asking.found.rows asking.found.configuration.suffix text ≡ Ok directory)
  pub texts_are : texts ≡ texts_on options asking.found.configuration directory asking.blocks

-- the configuration is one, and the questions have this fault under its types
pub record AreBadQuestions (rows : List TypeRow) (config questions : Option (List ℕ)) (why : QuestionsFault) : Type 0 where
  pub found : Configured
  pub reads : IsTextOf rows config found
  pub blamed : IfSome questions (λ text. question_blocks found.rows text ≡ Err why)

-- what a fault says of the texts that were read. Out of memory and a reader's fault say nothing of them
abbrev pub IsToolFaultOf : List TypeRow → QuestionSources → ToolFault → Type 0
IsToolFaultOf rows known (tool.Config why) = IsConfigFault rows known.config (tool.Config why)
IsToolFaultOf rows known (tool.BadCopy line why) =
    (asking : AreAsked rows known.config known.questions) × IfSome known.copy (λ text. IsBadCopy asking.found.rows asking.found.configuration.suffix text line why)
IsToolFaultOf rows known (tool.Read input.Config) = ⊤
IsToolFaultOf rows known (tool.Read input.Copy) = ⊤
IsToolFaultOf rows known tool.Memory = ⊤
IsToolFaultOf rows known why = ⊥

abbrev pub IsFaultOfQuestions : List TypeRow → QuestionSources → QuestionsFault → Type 0
IsFaultOfQuestions rows known (fault.Tool why) = IsToolFaultOf rows known why
IsFaultOfQuestions rows known fault.Read = ⊤
IsFaultOfQuestions rows known fault.Write = ⊥
IsFaultOfQuestions rows known why = AreBadQuestions rows known.config known.questions why

-- the answer where these are the texts, if it came to them
abbrev pub AnswersQuestions : List TypeRow → QuestionOptions → QuestionSources → Result Tally QuestionsFault → QuestionTexts → Type 0
AnswersQuestions rows options known (Ok tally) texts = AreStatedTexts rows options known texts × (tally ≡ texts.tally)
AnswersQuestions rows options known (Err fault.Write) texts = AreStatedTexts rows options known texts
AnswersQuestions rows options known (Err (fault.Tool (tool.Write writer))) texts = AreStatedTexts rows options known texts
AnswersQuestions rows options known (Err why) texts = IsFaultOfQuestions rows known why

-- the answer, and the texts, are those of the definition. Where reading stopped, or memory ran out, the answer says nothing of them
abbrev pub IsAnswerOf : Result Tally QuestionsFault → QuestionTexts → Result QuestionTexts QuestionsFault → Type 0
IsAnswerOf (Ok tally) texts wanted = (wanted ≡ Ok texts) × (tally ≡ texts.tally)
IsAnswerOf (Err fault.Write) texts wanted = wanted ≡ Ok texts
IsAnswerOf (Err (fault.Tool (tool.Write writer))) texts wanted = wanted ≡ Ok texts
IsAnswerOf (Err fault.Read) texts wanted = ⊤
IsAnswerOf (Err (fault.Tool tool.Memory)) texts wanted = ⊤
IsAnswerOf (Err (fault.Tool (tool.Read from))) texts wanted = ⊤
IsAnswerOf (Err (fault.Tool (tool.BadCopy line (cause.Ended stream.TooManyTurns)))) texts wanted = ⊤
IsAnswerOf (Err why) texts wanted = wanted ≡ Err why

-- where the three sources tell their texts, the answer is what the definition says
abbrev pub IsWholeAnswer : List TypeRow → QuestionOptions → QuestionSources → Result Tally QuestionsFault → QuestionTexts → Type 0
IsWholeAnswer rows options known result texts =
    IfSome known.config (λ config. IfSome known.questions (λ questions. IfSome known.copy (λ copy. IsAnswerOf result texts (questions_of rows options config questions copy))))

-- ---- writing

-- the answers, where they are asked for, and then the report, each whole before the next has a byte
abbrev pub WroteAnswers : {A : Type 0} → Bool → Result A QuestionsFault → QuestionTexts → TakenBytes → TakenBytes → Type 0
WroteAnswers wanted (Ok x) texts answers report = TookFile (not wanted) answers texts.answers × TookWhole report texts.report
WroteAnswers wanted (Err fault.Write) texts answers report = (wanted ≡ true) × TookPrefix answers texts.answers × TookNothing report
WroteAnswers wanted (Err (fault.Tool (tool.Write output.Report))) texts answers report = TookFile (not wanted) answers texts.answers × TookPrefix report texts.report
WroteAnswers wanted (Err (fault.Tool (tool.Write other))) texts answers report = ⊥
WroteAnswers wanted (Err why) texts answers report = TookNothing answers × TookNothing report

-- a fault of what is read after the configuration, or of a writer, or out of memory
abbrev pub ComesAfterConfig : QuestionsFault → Type 0
ComesAfterConfig (fault.Tool (tool.Config why)) = ⊥
ComesAfterConfig (fault.Tool (tool.Read input.Config)) = ⊥
ComesAfterConfig why = ⊤

-- a fault of what is read after the questions, or of a writer, or out of memory
abbrev pub ComesAfterQuestions : QuestionsFault → Type 0
ComesAfterQuestions (fault.Tool why) = ComesAfterConfig (fault.Tool why)
ComesAfterQuestions fault.Write = ⊤
ComesAfterQuestions why = ⊥

-- ---- the questions alone, before it is known under which types they are asked

-- under all types, the text is read as these blocks of lines are; or as this fault
abbrev pub IsReadAs : Option (List ℕ) → (List TypeRow → Result (List QuestionBlock) QuestionsFault) → Type 0
IsReadAs text wanted = IfSome text (λ text. (rows : List TypeRow) → question_blocks rows text ≡ wanted rows)

abbrev pub HasLines : Option (List ℕ) → List (List Line) → Type 0
HasLines text lines = IsReadAs text (λ rows. read_lines rows lines)

-- why there are no blocks of lines: the source failed, or memory ran out; or the text has this fault, whatever its lines say
abbrev pub HasNoLines : Option (List ℕ) → ℕ → ℕ → QuestionsFault → Type 0
HasNoLines text failures failures' fault.Read = HasFailed failures failures'
HasNoLines text failures failures' (fault.Tool tool.Memory) = ⊤
HasNoLines text failures failures' fault.TooLong = IsReadAs text (λ rows. Err fault.TooLong)
HasNoLines text failures failures' (fault.Stream why) = IsReadAs text (λ rows. Err (fault.Stream why))
HasNoLines text failures failures' why = ⊥

-- ---- reading that stopped

-- the configuration and the questions are right, and so was every complete record among the bytes of the copy
abbrev pub RecordsWereRight : List TypeRow → Option (List ℕ) → Option (List ℕ) → KnownBytes → Type 0
RecordsWereRight rows config questions copy =
    (asking : AreAsked rows config questions)
    × GaveBytes copy.0 copy.1 (λ bytes. CompleteRecordsLoad asking.found.rows (empty_copy asking.found.configuration.suffix) (answers_after asking.found.rows bytes))

-- for each fault of the copy's reader, what holds of the complete records before it
abbrev pub QuestionsHeldBefore : List TypeRow → Option (List ℕ) → Option (List ℕ) → KnownBytes → QuestionsFault → Type 0
QuestionsHeldBefore rows config questions copy (fault.Tool (tool.Read input.Copy)) = RecordsWereRight rows config questions copy
QuestionsHeldBefore rows config questions copy (fault.Tool (tool.BadCopy line (cause.Ended stream.TooManyTurns))) = RecordsWereRight rows config questions copy
QuestionsHeldBefore rows config questions copy why = ⊤
