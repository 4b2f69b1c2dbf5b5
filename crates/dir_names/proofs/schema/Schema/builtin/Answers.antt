use Rattle.std.proofs.Common.{◌≡◌, true, sym, subst, rules}
use Rattle.dir_names.specs.Table.Builtin.{builtin_rows}
use Rattle.dir_names.specs.Types.Adding.{is_table}
use Rattle.dir_names.proofs.Scopes.{keeps_equal}
use Rattle.dir_names.proofs.TypeTables.{builtin_table}
use Rattle.dir_names.proofs.schema.Schema.builtin.Goals as goal

pub of-requires-clause-table : goal.of-requires-clause-table
of-requires-clause-table c =
    let are : c.in_ok-known_types.field-0.items ≡ builtin_rows = search rules in
    subst (λ rows. is_table rows ≡ true) (sym are) builtin_table

pub of-requires-clause-keeps : goal.of-requires-clause-keeps
of-requires-clause-keeps c =
    let are : c.in_ok-known_types.field-0.items ≡ builtin_rows = search rules in
    keeps_equal builtin_rows c.in_ok-known_types.field-0.items are
