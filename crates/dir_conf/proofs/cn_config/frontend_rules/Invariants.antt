use Rattle.std.proofs.Common.{◌≡◌, drop, map}
use Rattle.dir_conf.specs.CnConfig.{rules_if_frontend}
use Rattle.dir_conf.specs.CnConfig.Records.{gather}
use Rattle.dir_conf.proofs.Turns.{after}
use Rattle.dir_conf.proofs.cn_config.frontend_rules.Given as goal

abbrev pub invariant-loop-entry : goal.invariant-loop-entry
invariant-loop-entry l = gather rules_if_frontend (map (λ entry. entry.items) l.entries) ≡ after l.lines.items (gather rules_if_frontend (map (λ entry. entry.items) (drop l.entry-index l.entries)))
