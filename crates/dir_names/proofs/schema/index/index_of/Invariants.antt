use Rattle.std.proofs.Common.{take}
use Rattle.dir_names.specs.Inside.TypeNames.{IsIndex}
use Rattle.dir_names.proofs.schema.index.index_of.Given as goal

abbrev pub invariant-loop-number : goal.invariant-loop-number
invariant-loop-number l = IsIndex (take l.number l.rows) l.names.items
