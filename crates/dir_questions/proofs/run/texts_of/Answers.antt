use Rattle.std.proofs.Common.{arith}
use Rattle.std.proofs.lemmas.Grind.{common_steps}
use Rattle.dir_questions.proofs.run.texts_of.Goals as goal

pub loop-block-preserved : goal.loop-block-preserved
loop-block-preserved g c = grind (arith, common_steps)

pub returns-clause-answers : goal.returns-clause-answers
returns-clause-answers g c = grind (arith, common_steps)

pub returns-clause-report : goal.returns-clause-report
returns-clause-report g c = grind (arith, common_steps)

pub returns-clause-tally : goal.returns-clause-tally
returns-clause-tally g c = grind (arith, common_steps)
