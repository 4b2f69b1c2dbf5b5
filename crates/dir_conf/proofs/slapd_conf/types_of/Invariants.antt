use Rattle.std.proofs.Common.{◌≡◌, [], drop, map}
use Rattle.dir_conf.specs.SlapdConf.{types_of}
use Rattle.dir_conf.specs.SlapdConf.Statements.{statement_of}
use Rattle.dir_conf.proofs.Turns.{after}
use Rattle.dir_conf.proofs.slapd_conf.types_of.Given as goal

abbrev pub invariant-loop-statement : goal.invariant-loop-statement
invariant-loop-statement l = types_of [] (map statement_of l.statements) ≡ after l.types.items (types_of l.macros.items (map statement_of (drop l.statement-index l.statements)))
