use Rattle.std.proofs.Common.{◌≡◌, drop, map}
use Rattle.dir_conf.specs.CnConfig.{rule_line}
use Rattle.dir_conf.specs.CnConfig.Records.{gather}
use Rattle.dir_conf.specs.CnConfig.Values.{numbered}
use Rattle.dir_conf.proofs.Turns.{after}
use Rattle.dir_conf.proofs.cn_config.rules_of.Given as goal

abbrev pub invariant-loop-value : goal.invariant-loop-value
invariant-loop-value l = gather rule_line (map numbered l.values) ≡ after l.lines.items (gather rule_line (map numbered (drop l.value-index l.values)))
