use Rattle.std.proofs.Common.{◌≡◌, take, false}
use Rattle.std.specs.List.{list_any}
use Rattle.dir_names.specs.Inside.Rows.{is_row_of}
use Rattle.dir_names.proofs.schema.is_in_rows.Given as goal

abbrev pub invariant-loop-row : goal.invariant-loop-row
invariant-loop-row l = list_any (is_row_of l.text) (take l.row-index l.rows) ≡ false
