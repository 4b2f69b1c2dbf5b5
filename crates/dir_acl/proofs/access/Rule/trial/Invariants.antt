use Rattle.std.proofs.Common.{◌≡◌, drop, map}
use Rattle.std.specs.List.{list_all}
use Rattle.std.specs.Option.{option_copied}
use Rattle.dir_acl.specs.Inside.Fakes.{attributes_of}
use Rattle.dir_acl.specs.Rules.{restriction_of}
use Rattle.dir_acl.specs.TargetRules.{allows_asked, is_for}
use Rattle.dir_acl.proofs.access.Rule.trial.Given as goal

abbrev pub invariant-loop-index : goal.invariant-loop-index
invariant-loop-index l = record {
  is_for :
      list_all (is_for l.target (attributes_of (option_copied l.entry))) (map restriction_of l.self.what.items)
      ≡ list_all (is_for l.target (attributes_of (option_copied l.entry))) (map restriction_of (drop l.index l.self.what.items));
  allows_asked : list_all (allows_asked l.asked) (map restriction_of l.self.what.items) ≡ list_all (allows_asked l.asked) (map restriction_of (drop l.index l.self.what.items));
}
