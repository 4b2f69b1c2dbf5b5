use Rattle.std.proofs.Common.{◌≡◌, drop, map}
use Rattle.std.specs.List.{list_any}
use Rattle.dir_conf.specs.CnConfig.Databases.{is_frontend_name}
use Rattle.dir_conf.specs.CnConfig.Values.{numbered}
use Rattle.dir_conf.proofs.cn_config.databases.has_frontend_name.Given as goal

abbrev pub invariant-loop-name : goal.invariant-loop-name
invariant-loop-name l = list_any is_frontend_name (map numbered l.names) ≡ list_any is_frontend_name (map numbered (drop l.name-index l.names))
