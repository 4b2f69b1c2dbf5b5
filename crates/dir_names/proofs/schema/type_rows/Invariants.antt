use Rattle.std.proofs.Common.{◌≡◌, map, take}
use Rattle.dir_names.specs.Inside.Rows.{type_row}
use Rattle.dir_names.proofs.schema.type_rows.Given as goal

abbrev pub invariant-loop-row : goal.invariant-loop-row
invariant-loop-row l = l.types.items ≡ map type_row (take l.row-index l.rows)
