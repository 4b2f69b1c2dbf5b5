use Rattle.std.proofs.Common.{◌≡◌, drop, map}
use Rattle.dir_conf.specs.SlapdConf.Files.{after_each}
use Rattle.dir_conf.specs.SlapdConf.Parts.{after_statement, parts_by, parts_of}
use Rattle.dir_conf.specs.SlapdConf.Statements.{statement_of}
use Rattle.dir_conf.proofs.slapd_conf.parts.read_parts.Given as goal

abbrev pub invariant-loop-statement : goal.invariant-loop-statement
invariant-loop-statement l = parts_of l.schema (map statement_of l.statements) ≡ after_each (after_statement l.schema) (map statement_of (drop l.statement-index l.statements)) (parts_by l.parts)
