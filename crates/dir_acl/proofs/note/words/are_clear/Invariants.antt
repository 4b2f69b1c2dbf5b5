use Rattle.std.proofs.Common.{◌≡◌, drop, true}
use Rattle.std.specs.List.{list_all}
use Rattle.dir_acl.specs.Inside.NotedTypes.{noted_by}
use Rattle.dir_acl.specs.Notes.Known.{asked_known}
use Rattle.dir_acl.proofs.note.words.are_clear.Given as goal

-- all are clear, if those to come are
abbrev pub invariant-loop-item : goal.invariant-loop-item
invariant-loop-item l = list_all (asked_known (noted_by l.types)) (drop l.item-index l.items) ≡ true → list_all (asked_known (noted_by l.types)) l.items ≡ true
