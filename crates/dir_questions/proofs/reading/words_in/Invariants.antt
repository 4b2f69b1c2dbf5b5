use Rattle.std.proofs.Common.{◌≡◌, drop, map}
use Rattle.dir_questions.specs.Reading.{word_in}
use Rattle.dir_questions.specs.Questions.{collect, word_line, words_in}
use Rattle.dir_questions.proofs.Collecting.{after}
use Rattle.dir_questions.proofs.reading.words_in.Given as goal

abbrev pub invariant-loop-line : goal.invariant-loop-line
invariant-loop-line l = words_in l.schema l.begin l.lines ≡ after (map word_in l.words.items) (collect (word_line l.schema) (drop l.line-index l.lines))
