use Rattle.dir_names.specs.Table.Builtin.{builtin_rows}
use Rattle.dir_names.proofs.schema.is_builtin.Goals as goal

pub returns : goal.returns
unfolding builtin_rows
returns c = c.names_row.ensures
