use Rattle.std.proofs.Common.{◌≡◌, drop, map}
use Rattle.std.specs.List.{list_all}
use Rattle.dir_acl.specs.Rules.{restriction_of}
use Rattle.dir_acl.specs.TargetRules.{allows_asked}
use Rattle.dir_acl.proofs.access.Rule.allows_asked.Given as goal

abbrev pub invariant-loop-what : goal.invariant-loop-what
invariant-loop-what l = list_all (allows_asked l.asked) (map restriction_of l.self.what.items) ≡ list_all (allows_asked l.asked) (map restriction_of (drop l.what-index l.self.what.items))
