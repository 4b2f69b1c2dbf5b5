use Rattle.std.proofs.Common.{◌≡◌, filter, is_some, not, take}
use Rattle.dir_names.specs.Table.{row_named}
use Rattle.dir_names.proofs.schema.types.TypeTable.new_names.Given as goal

abbrev pub invariant-loop-name : goal.invariant-loop-name
invariant-loop-name l = l.names.items ≡ filter (λ name. not (is_some (row_named l.self name))) (take l.name-index l.definition.names)
