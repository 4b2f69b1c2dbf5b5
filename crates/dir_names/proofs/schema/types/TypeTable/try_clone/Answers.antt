use Rattle.std.proofs.Common.{◌≡◌, true, sym, subst, rules}
use Rattle.dir_names.specs.Table.Builtin.{builtin_rows}
use Rattle.dir_names.specs.Types.Adding.{KeepsTypes, is_table}
use Rattle.dir_names.proofs.schema.types.TypeTable.try_clone.Goals as goal

pub of-requires-clause-table : goal.of-requires-clause-table
of-requires-clause-table c =
    let are : c.in_ok-cloned_rows.field-0.items ≡ c.self.inside.rows.items = search rules in
    subst (λ rows. is_table rows ≡ true) (sym are) c.self.invariant.1

pub of-requires-clause-keeps : goal.of-requires-clause-keeps
of-requires-clause-keeps c =
    let are : c.in_ok-cloned_rows.field-0.items ≡ c.self.inside.rows.items = search rules in
    subst (KeepsTypes builtin_rows) (sym are) c.self.invariant.2
