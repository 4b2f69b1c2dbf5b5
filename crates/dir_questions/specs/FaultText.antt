-- What the faults of a file of questions show.
use Rattle.std.specs.Prelude.{ℕ, List, ◌++◌, codes}
use Rattle.std.specs.Fmt.{decimal}
use Rattle.dir_ldif.specs.FaultText.{record_fault_text, stream_fault_text}
use Rattle.dir_tools.specs.FaultText.{tool_fault_text}
use Rattle.dir_questions.specs.declared.fault.QuestionCause.{QuestionCause}
use Rattle.dir_questions.specs.declared.fault.QuestionCause.TheVariants as cause
use Rattle.dir_questions.specs.declared.fault.QuestionsFault.{QuestionsFault}
use Rattle.dir_questions.specs.declared.fault.QuestionsFault.TheVariants as fault

abbrev pub question_cause_text : QuestionCause → List ℕ
question_cause_text (cause.Line why) = record_fault_text why
question_cause_text cause.BadBlock = codes "A1 BadBlock"
question_cause_text cause.BadName = codes "A2 BadName"
question_cause_text cause.BadWord = codes "A3 BadWord"
question_cause_text cause.BadAnswer = codes "A4 BadAnswer"

abbrev pub questions_fault_text : QuestionsFault → List ℕ
questions_fault_text (fault.Tool why) = tool_fault_text why
questions_fault_text fault.Read = codes "cannot read questions"
questions_fault_text fault.TooLong = codes "questions: A5 TooLong"
questions_fault_text (fault.Stream why) = codes "questions: " ++ stream_fault_text why
questions_fault_text (fault.Block line why) = codes "questions, line " ++ decimal line ++ codes ": " ++ question_cause_text why
questions_fault_text fault.Write = codes "cannot write answers"
