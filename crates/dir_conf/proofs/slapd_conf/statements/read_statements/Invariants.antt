use Rattle.std.proofs.Common.{◌≡◌, ◌+◌, drop, map}
use Rattle.dir_conf.specs.SlapdConf.Files.{placed}
use Rattle.dir_conf.specs.SlapdConf.Statements.{statement_of, statements_from}
use Rattle.dir_conf.proofs.Turns.{after}
use Rattle.dir_conf.proofs.slapd_conf.statements.read_statements.Given as goal

abbrev pub invariant-loop-at : goal.invariant-loop-at
invariant-loop-at l = statements_from 1 (map placed l.lines) ≡ after (map statement_of l.found.items) (statements_from (l.at + 1) (map placed (drop l.at l.lines)))
