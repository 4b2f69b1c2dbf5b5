use Rattle.std.proofs.Common.{◌≡◌, drop}
use Rattle.dir_acl.specs.Config.Opening.{open_rule_from, open_rule_of}
use Rattle.dir_acl.specs.Inside.NotedTypes.{noted_by}
use Rattle.dir_acl.specs.Inside.ReadingConfig.{place_of}
use Rattle.dir_acl.proofs.config.opening.read_open_rule.Given as goal

abbrev pub invariant-loop-argument : goal.invariant-loop-argument
invariant-loop-argument l = open_rule_of (noted_by l.types) l.arguments ≡ open_rule_from (noted_by l.types) (place_of l.place) (drop l.argument-index l.arguments)
