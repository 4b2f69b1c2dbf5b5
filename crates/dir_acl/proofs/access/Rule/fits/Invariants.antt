use Rattle.std.proofs.Common.{◌≡◌, drop, map}
use Rattle.std.specs.List.{list_all}
use Rattle.dir_acl.specs.Decision.{fits}
use Rattle.dir_acl.specs.Inside.Requests.{question_of}
use Rattle.dir_acl.specs.Rules.{restriction_of}
use Rattle.dir_acl.proofs.access.Rule.fits.Given as goal

abbrev pub invariant-loop-what : goal.invariant-loop-what
invariant-loop-what l = list_all (fits (question_of l.request)) (map restriction_of l.self.what.items) ≡ list_all (fits (question_of l.request)) (map restriction_of (drop l.what-index l.self.what.items))
