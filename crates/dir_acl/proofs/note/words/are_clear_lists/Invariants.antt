use Rattle.std.proofs.Common.{◌≡◌, drop, map, true}
use Rattle.std.specs.List.{list_all}
use Rattle.dir_acl.specs.Inside.ClearLists.{is_clear_list}
use Rattle.dir_acl.specs.Inside.NotedTypes.{noted_by}
use Rattle.dir_acl.specs.Rules.{restriction_of}
use Rattle.dir_acl.proofs.note.words.are_clear_lists.Given as goal

-- all are clear, if those to come are
abbrev pub invariant-loop-what : goal.invariant-loop-what
invariant-loop-what l =
    list_all (is_clear_list (noted_by l.types)) (map restriction_of (drop l.what-index l.whats)) ≡ true → list_all (is_clear_list (noted_by l.types)) (map restriction_of l.whats) ≡ true
