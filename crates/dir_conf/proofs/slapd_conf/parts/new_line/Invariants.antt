use Rattle.std.proofs.Common.{◌≡◌, ◌++◌, drop}
use Rattle.dir_conf.proofs.slapd_conf.parts.new_line.Given as goal

abbrev pub invariant-loop-argument : goal.invariant-loop-argument
invariant-loop-argument l = l.fn.arguments ≡ l.copies.items ++ drop l.argument-index l.fn.arguments
