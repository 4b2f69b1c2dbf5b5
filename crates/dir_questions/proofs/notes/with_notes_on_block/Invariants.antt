use Rattle.std.proofs.Common.{◌≡◌, ◌++◌, drop, map}
use Rattle.std.specs.List.{flat_map}
use Rattle.dir_questions.specs.Notes.{notes_on_asked}
use Rattle.dir_questions.specs.Reading.{word_in}
use Rattle.dir_questions.proofs.notes.with_notes_on_block.Given as goal

abbrev pub invariant-loop-asked : goal.invariant-loop-asked
invariant-loop-asked l =
    l.notes.items ++ flat_map (notes_on_asked l.schema) (map word_in (drop l.asked-index l.block.words.items)) ≡ l.initial.notes.items ++ flat_map (notes_on_asked l.schema) (map word_in l.block.words.items)
