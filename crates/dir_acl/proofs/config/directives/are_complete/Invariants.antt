use Rattle.std.proofs.Common.{◌≡◌, drop, is_some}
use Rattle.std.specs.List.{list_all}
use Rattle.dir_acl.proofs.config.directives.are_complete.Given as goal

abbrev pub invariant-loop-argument : goal.invariant-loop-argument
invariant-loop-argument l = list_all is_some l.arguments ≡ list_all is_some (drop l.argument-index l.arguments)
