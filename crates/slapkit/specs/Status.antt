-- The exit status of the program.
use Rattle.std.specs.Prelude.{ℕ, ◌==◌, cond, Result, Ok, Err}
use Rattle.dir_questions.specs.declared.report.Tally.{Tally}
use Rattle.dir_tools.specs.declared.run.Summary.{Summary}
use Rattle.dir_files.specs.declared.fault.Fault.{Fault}

-- 0 where the run came to its end and refused no record, else 1
abbrev pub status_of : Result Summary Fault → ℕ
status_of (Ok summary) = cond (summary.refused == 0) 0 1
status_of (Err fault) = 1

-- of a question of access: 0 where it was answered, also with `DENIED`, else 1
abbrev pub access_status_of : {A : Type 0} → Result A Fault → ℕ
access_status_of (Ok answer) = 0
access_status_of (Err fault) = 1

-- of a configuration: 0 where the flat one was made, else 1
abbrev pub conf_status_of : {A : Type 0} → Result A Fault → ℕ
conf_status_of (Ok tally) = 0
conf_status_of (Err fault) = 1

-- of a file of questions: 0 where all were answered, and no answer is another than the one that is expected, else 1
abbrev pub questions_status_of : Result Tally Fault → ℕ
questions_status_of (Ok tally) = cond (tally.otherwise == 0) 0 1
questions_status_of (Err fault) = 1
