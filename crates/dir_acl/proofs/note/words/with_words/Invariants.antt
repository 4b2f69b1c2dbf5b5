use Rattle.std.proofs.Common.{◌≡◌, ◌++◌, drop, true}
use Rattle.dir_acl.specs.Inside.ClearLists.{AreSilent}
use Rattle.dir_acl.specs.Inside.NotedTypes.{noted_by}
use Rattle.dir_acl.specs.Notes.{rule_notes}
use Rattle.dir_acl.proofs.note.words.with_words.Given as goal

abbrev pub invariant-loop-word : goal.invariant-loop-word
invariant-loop-word l = record {
  notes : l.initial.notes.items ++ rule_notes (noted_by l.types) l.line l.words ≡ l.notes.items ++ rule_notes (noted_by l.types) l.line (drop l.word-index l.words);
  silent : l.is_silent ≡ true → AreSilent (noted_by l.types) l.line (drop l.word-index l.words);
}
