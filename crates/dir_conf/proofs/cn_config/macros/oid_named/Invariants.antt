use Rattle.std.proofs.Common.{◌≡◌, drop}
use Rattle.dir_conf.specs.CnConfig.Macros.{oid_named}
use Rattle.dir_conf.proofs.cn_config.macros.oid_named.Given as goal

abbrev pub invariant-loop-one : goal.invariant-loop-one
invariant-loop-one l = oid_named l.macros l.name ≡ oid_named (drop l.one-index l.macros) l.name
