use Rattle.std.proofs.Common.{◌≡◌, drop}
use Rattle.dir_conf.specs.CnConfig.Records.{attribute_of, gather}
use Rattle.dir_conf.proofs.Turns.{after}
use Rattle.dir_conf.proofs.cn_config.records.read_record.Given as goal

abbrev pub invariant-loop-line : goal.invariant-loop-line
invariant-loop-line l = gather attribute_of l.lines ≡ after l.found.items (gather attribute_of (drop l.line-index l.lines))
