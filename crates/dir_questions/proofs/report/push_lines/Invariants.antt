use Rattle.std.proofs.Common.{◌≡◌, ◌++◌, drop, map}
use Rattle.std.specs.List.{flat_map}
use Rattle.dir_questions.specs.Answers.{answer_line, outcome_of}
use Rattle.dir_questions.specs.Inside.Answering.{answer_in}
use Rattle.dir_questions.proofs.report.push_lines.Given as goal

abbrev pub invariant-loop-answer : goal.invariant-loop-answer
invariant-loop-answer l =
    record {
      text : l.text.items ++ flat_map (answer_line l.verbose) (map answer_in (drop l.answer-index l.answers)) ≡ l.initial.text.items ++ flat_map (answer_line l.verbose) (map answer_in l.answers);
      outcomes : l.outcomes.items ++ map outcome_of (map answer_in (drop l.answer-index l.answers)) ≡ l.initial.outcomes.items ++ map outcome_of (map answer_in l.answers);
    }
