use Rattle.std.proofs.Common.{arith}
use Rattle.std.proofs.lemmas.Grind.{common_steps}
use Rattle.dir_questions.proofs.report.push_lines.Goals as goal

pub loop-answer-preserved : goal.loop-answer-preserved
loop-answer-preserved c = grind (arith, common_steps)

pub returns-clause-text : goal.returns-clause-text
returns-clause-text c = grind (arith, common_steps)

pub returns-clause-outcomes : goal.returns-clause-outcomes
returns-clause-outcomes c = grind (arith, common_steps)
