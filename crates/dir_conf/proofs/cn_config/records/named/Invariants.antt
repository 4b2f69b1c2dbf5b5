use Rattle.std.proofs.Common.{◌≡◌, ◌++◌, drop, map}
use Rattle.std.specs.List.{flat_map}
use Rattle.dir_conf.specs.CnConfig.Records.{if_named}
use Rattle.dir_conf.specs.CnConfig.Values.{numbered}
use Rattle.dir_conf.proofs.cn_config.records.named.Given as goal

abbrev pub invariant-loop-attribute : goal.invariant-loop-attribute
invariant-loop-attribute l = flat_map (if_named l.name) l.attributes ≡ map numbered l.found.items ++ flat_map (if_named l.name) (drop l.attribute-index l.attributes)
