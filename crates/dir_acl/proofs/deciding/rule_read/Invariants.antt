use Rattle.std.proofs.Common.{◌≡◌, ◌+◌, drop}
use Rattle.dir_acl.specs.Config.AccessRules.{before_to}
use Rattle.dir_acl.specs.FaultArgument.{rule_read}
use Rattle.dir_acl.specs.Inside.ReadingConfig.{place_of}
use Rattle.dir_acl.proofs.deciding.rule_read.Given as goal

abbrev pub invariant-loop-i : goal.invariant-loop-i
invariant-loop-i l = rule_read l.schema before_to l.arguments ≡ rule_read l.schema (place_of l.place) (drop l.i l.arguments) + l.i
