use Rattle.std.proofs.Common.{subst}
use Rattle.dir_names.specs.Table.Builtin.{builtin_rows}
use Rattle.dir_names.specs.Types.Adding.{KeepsTypes}
use Rattle.dir_names.proofs.schema.types.TypeTable.keep_builtin_types.Goals as goal

pub returns : goal.returns
returns c = subst (KeepsTypes builtin_rows) c.self.view_is c.self.invariant.2
