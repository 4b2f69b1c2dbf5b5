use Rattle.std.proofs.Common.{◌≡◌, drop, map}
use Rattle.dir_questions.specs.Reading.{block_in}
use Rattle.dir_questions.specs.Questions.{collect, read_block}
use Rattle.dir_questions.proofs.Collecting.{after}
use Rattle.dir_questions.proofs.reading.read_questions.Given as goal

abbrev pub invariant-loop-lines : goal.invariant-loop-lines
invariant-loop-lines l =
    collect (λ lines. read_block l.schema lines.items) l.blocks ≡ after (map block_in l.found.items) (collect (λ lines. read_block l.schema lines.items) (drop l.lines-index l.blocks))
