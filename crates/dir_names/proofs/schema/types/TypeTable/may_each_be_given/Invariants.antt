use Rattle.std.proofs.Common.{◌≡◌, take, true}
use Rattle.std.specs.List.{list_all}
use Rattle.dir_names.specs.Types.Adding.{may_be_given}
use Rattle.dir_names.proofs.schema.types.TypeTable.may_each_be_given.Given as goal

abbrev pub invariant-loop-name : goal.invariant-loop-name
invariant-loop-name l = list_all (may_be_given l.self l.definition) (take l.name-index l.definition.names) ≡ true
