use Rattle.std.proofs.Common.{◌≡◌, ◌++◌, drop, map}
use Rattle.dir_questions.specs.Inside.Answering.{answer_in, missing}
use Rattle.dir_questions.specs.Reading.{word_in}
use Rattle.dir_questions.proofs.answering.no_answers.Given as goal

abbrev pub invariant-loop-asked : goal.invariant-loop-asked
invariant-loop-asked l =
    map answer_in l.answers.items ++ map missing (map word_in (drop l.asked-index l.block.words.items)) ≡ map missing (map word_in l.block.words.items)
