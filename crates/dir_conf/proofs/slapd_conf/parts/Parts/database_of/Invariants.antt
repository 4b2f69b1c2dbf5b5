use Rattle.std.proofs.Common.{◌≡◌, None, map}
use Rattle.std.specs.Prelude.{option_map}
use Rattle.dir_conf.specs.SlapdConf.Files.{after_each}
use Rattle.dir_conf.specs.SlapdConf.Parts.{after_one, database_by}
use Rattle.dir_conf.proofs.slapd_conf.parts.Parts.database_of.Given as goal

abbrev pub invariant-loop-database : goal.invariant-loop-database
invariant-loop-database l =
    after_each (after_one l.wanted) (map database_by l.initial.database-iterator.rest.items) None
    ≡ after_each (after_one l.wanted) (map database_by l.database-iterator.rest.items) (option_map database_by l.found)
