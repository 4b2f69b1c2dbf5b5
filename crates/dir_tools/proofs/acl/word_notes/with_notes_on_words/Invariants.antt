use Rattle.std.proofs.Common.{◌≡◌, ◌++◌, drop}
use Rattle.dir_tools.specs.WordNotes.{notes_on_words}
use Rattle.dir_tools.proofs.acl.word_notes.with_notes_on_words.Given as goal

abbrev pub invariant-loop-text : goal.invariant-loop-text
invariant-loop-text l = l.initial.notes.items ++ notes_on_words l.schema l.words ≡ l.notes.items ++ notes_on_words l.schema (drop l.text-index l.words)
