use Rattle.std.proofs.Common.{◌≡◌, drop, map}
use Rattle.dir_conf.specs.CnConfig.Macros.{with_macros}
use Rattle.dir_conf.specs.CnConfig.Values.{numbered}
use Rattle.dir_conf.proofs.cn_config.macros.with_macros.Given as goal

abbrev pub invariant-loop-value : goal.invariant-loop-value
invariant-loop-value l = with_macros l.initial.macros.items (map numbered l.values) ≡ with_macros l.macros.items (map numbered (drop l.value-index l.values))
