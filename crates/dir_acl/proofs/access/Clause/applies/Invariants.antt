use Rattle.std.proofs.Common.{◌≡◌, drop}
use Rattle.std.specs.List.{list_all}
use Rattle.dir_acl.specs.Decision.{holds_for, named}
use Rattle.dir_acl.specs.Inside.Requests.{question_of}
use Rattle.dir_acl.proofs.access.Clause.applies.Given as goal

abbrev pub invariant-loop-who : goal.invariant-loop-who
invariant-loop-who g l =
    list_all (holds_for (g.D.Directory.state l.directory) (question_of l.request) (named l.request.requester)) l.self.who.items
    ≡ list_all (holds_for (g.D.Directory.state l.directory) (question_of l.request) (named l.request.requester)) (drop l.who-index l.self.who.items)
