use Rattle.std.proofs.Common.{◌≡◌, ◌++◌, drop}
use Rattle.std.specs.Prelude.{option_map}
use Rattle.dir_conf.specs.CnConfig.Arguments.{arguments_from, arguments_of}
use Rattle.dir_conf.proofs.cn_config.arguments.read_arguments.Given as goal

abbrev pub invariant-loop-b : goal.invariant-loop-b
invariant-loop-b l = arguments_of l.value ≡ option_map (λ more. l.arguments.items ++ more) (arguments_from l.spot l.item.items (drop l.b-index l.value))
