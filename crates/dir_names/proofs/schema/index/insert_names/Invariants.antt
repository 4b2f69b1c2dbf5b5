use Rattle.std.proofs.Common.{◌≡◌, take, true}
use Rattle.dir_names.specs.Inside.TypeNames.{Gains, are_rising}
use Rattle.dir_names.proofs.IndexedNames.{named_in}
use Rattle.dir_names.proofs.schema.index.insert_names.Given as goal

abbrev pub invariant-loop-name : goal.invariant-loop-name
invariant-loop-name l = (are_rising l.names.items ≡ true) × Gains (named_in (take l.name-index l.of_row)) l.row l.fn.names.items l.names.items
