use Rattle.std.proofs.Common.{◌≡◌, drop}
use Rattle.dir_conf.specs.CnConfig.Databases.{is_at, line_of_first}
use Rattle.dir_conf.proofs.cn_config.databases.first_at.Given as goal

abbrev pub invariant-loop-suffix : goal.invariant-loop-suffix
invariant-loop-suffix l = line_of_first (is_at l.wanted) l.suffixes ≡ line_of_first (is_at l.wanted) (drop l.suffix-index l.suffixes)
