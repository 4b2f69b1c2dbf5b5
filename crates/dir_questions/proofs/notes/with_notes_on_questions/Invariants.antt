use Rattle.std.proofs.Common.{◌≡◌, ◌++◌, drop, map}
use Rattle.std.specs.List.{flat_map}
use Rattle.dir_questions.specs.Notes.{notes_on_block}
use Rattle.dir_questions.specs.Reading.{block_in}
use Rattle.dir_questions.proofs.notes.with_notes_on_questions.Given as goal

abbrev pub invariant-loop-block : goal.invariant-loop-block
invariant-loop-block l =
    l.notes.items ++ flat_map (notes_on_block l.schema) (map block_in (drop l.block-index l.blocks)) ≡ l.initial.notes.items ++ flat_map (notes_on_block l.schema) (map block_in l.blocks)
