use Rattle.std.proofs.Common.{◌≡◌, ◌++◌, drop, map}
use Rattle.dir_conf.specs.SlapdConf.Statements.{statement_of}
use Rattle.dir_conf.specs.Suffixes.{suffixes_said}
use Rattle.dir_conf.proofs.suffixes.suffixes_said.Given as goal

abbrev pub invariant-loop-statement : goal.invariant-loop-statement
invariant-loop-statement l = suffixes_said (map statement_of l.statements) ≡ l.found.items ++ suffixes_said (map statement_of (drop l.statement-index l.statements))
