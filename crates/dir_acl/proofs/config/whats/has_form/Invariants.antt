use Rattle.std.proofs.Common.{◌≡◌, drop, map}
use Rattle.std.specs.List.{list_any}
use Rattle.dir_acl.specs.Config.Whats.{is_of_form}
use Rattle.dir_acl.specs.Rules.{restriction_of}
use Rattle.dir_acl.proofs.config.whats.has_form.Given as goal

abbrev pub invariant-loop-what : goal.invariant-loop-what
invariant-loop-what l = list_any (is_of_form l.form) (map restriction_of l.whats) ≡ list_any (is_of_form l.form) (map restriction_of (drop l.what-index l.whats))
