use Rattle.std.proofs.Common.{◌≡◌, ◌++◌, length}
use Rattle.dir_acl.specs.Inside.NotedTypes.{noted_by}
use Rattle.dir_acl.specs.Notes.{tests_notes}
use Rattle.dir_acl.proofs.note.filters.with_tests.Given as goal

abbrev pub invariant-loop-b : goal.invariant-loop-b
invariant-loop-b l = l.initial.notes.items ++ tests_notes (noted_by l.types) l.line l.text ≡ l.notes.items ++ tests_notes (noted_by l.types) l.line l.rest

abbrev pub decreases-loop-b : goal.decreases-loop-b
decreases-loop-b l = length l.rest
