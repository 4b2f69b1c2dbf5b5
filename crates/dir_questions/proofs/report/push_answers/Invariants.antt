use Rattle.std.proofs.Common.{◌≡◌, ◌++◌, drop, map}
use Rattle.std.specs.List.{flat_map}
use Rattle.dir_questions.specs.Answers.{answered_line}
use Rattle.dir_questions.specs.Inside.Answering.{answer_in}
use Rattle.dir_questions.proofs.report.push_answers.Given as goal

abbrev pub invariant-loop-answer : goal.invariant-loop-answer
invariant-loop-answer l =
    l.text.items ++ flat_map answered_line (map answer_in (drop l.answer-index l.answers)) ≡ l.initial.text.items ++ flat_map answered_line (map answer_in l.answers)
