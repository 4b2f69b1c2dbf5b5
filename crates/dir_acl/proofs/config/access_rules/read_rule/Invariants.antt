use Rattle.std.proofs.Common.{◌≡◌, drop}
use Rattle.dir_acl.specs.Config.AccessRules.{access_rule_of, rule_from}
use Rattle.dir_acl.specs.Inside.ReadingConfig.{place_of}
use Rattle.dir_acl.proofs.config.access_rules.read_rule.Given as goal

abbrev pub invariant-loop-argument : goal.invariant-loop-argument
invariant-loop-argument l = access_rule_of l.schema l.arguments ≡ rule_from l.schema (place_of l.place) (drop l.argument-index l.arguments)
