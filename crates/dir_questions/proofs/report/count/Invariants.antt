use Rattle.std.proofs.Common.{◌≡◌, ◌+◌, ◌≤◌, drop}
use Rattle.dir_questions.specs.Answers.{count}
use Rattle.dir_questions.proofs.report.count.Given as goal

abbrev pub invariant-loop-outcome : goal.invariant-loop-outcome
invariant-loop-outcome l = (l.n + count l.wanted (drop l.outcome-index l.outcomes) ≡ count l.wanted l.outcomes) × (l.n ≤ l.outcome-index)
