use Rattle.std.proofs.Common.{◌≡◌, ◌++◌, drop, map}
use Rattle.dir_conf.specs.CnConfig.{definitions}
use Rattle.dir_conf.specs.CnConfig.Values.{numbered}
use Rattle.dir_conf.proofs.cn_config.definitions.Given as goal

abbrev pub invariant-loop-value : goal.invariant-loop-value
invariant-loop-value l = definitions l.macros (map numbered l.values) ≡ l.types.items ++ definitions l.macros (map numbered (drop l.value-index l.values))
