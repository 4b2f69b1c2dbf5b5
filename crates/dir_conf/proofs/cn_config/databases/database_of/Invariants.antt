use Rattle.std.proofs.Common.{◌≡◌, None, drop, map, option_copied}
use Rattle.dir_conf.specs.CnConfig.Databases.{after_records}
use Rattle.dir_conf.proofs.cn_config.databases.database_of.Given as goal

abbrev pub invariant-loop-entry : goal.invariant-loop-entry
invariant-loop-entry l =
    after_records l.schema l.wanted None (map (λ entry. entry.items) l.records)
    ≡ after_records l.schema l.wanted (option_copied l.found) (map (λ entry. entry.items) (drop l.entry-index l.records))
