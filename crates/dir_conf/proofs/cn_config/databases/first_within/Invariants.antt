use Rattle.std.proofs.Common.{◌≡◌, drop}
use Rattle.dir_conf.specs.CnConfig.Databases.{is_within, line_of_first}
use Rattle.dir_conf.proofs.cn_config.databases.first_within.Given as goal

abbrev pub invariant-loop-suffix : goal.invariant-loop-suffix
invariant-loop-suffix l = line_of_first (is_within l.wanted) l.suffixes ≡ line_of_first (is_within l.wanted) (drop l.suffix-index l.suffixes)
