use Rattle.std.proofs.Common.{◌≡◌, ◌++◌, drop}
use Rattle.std.specs.List.{flat_map}
use Rattle.dir_conf_text.specs.Quoting.{preceded}
use Rattle.dir_conf.proofs.flat.push_arguments.Given as goal

abbrev pub invariant-loop-argument : goal.invariant-loop-argument
invariant-loop-argument l = l.text.items ++ flat_map preceded (drop l.argument-index l.arguments) ≡ l.initial.text.items ++ flat_map preceded l.arguments
