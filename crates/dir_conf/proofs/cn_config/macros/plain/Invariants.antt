use Rattle.std.proofs.Common.{◌≡◌, ◌++◌, drop, map}
use Rattle.dir_conf.specs.CnConfig.Macros.{plain_byte}
use Rattle.dir_conf.proofs.cn_config.macros.plain.Given as goal

abbrev pub invariant-loop-b : goal.invariant-loop-b
invariant-loop-b l = map plain_byte l.text ≡ l.found.items ++ map plain_byte (drop l.b-index l.text)
