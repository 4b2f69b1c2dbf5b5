use Rattle.dir_questions.proofs.FixedLaw.{answers_are_fixed}
use Rattle.dir_questions.proofs.laws.answers_are_fixed.Goals as goal

pub returns : goal.returns
returns c = answers_are_fixed
