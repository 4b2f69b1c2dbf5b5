use Rattle.dir_names.specs.Table.Builtin.{builtin_rows}
use Rattle.dir_names.proofs.schema.known_types.Goals as goal

pub returns : goal.returns
unfolding builtin_rows
returns c = c.type_rows.ensures
