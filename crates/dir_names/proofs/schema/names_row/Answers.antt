use Rattle.std.proofs.Common.{◌∙◌}
use Rattle.dir_names.proofs.Scopes.{row_found}
use Rattle.dir_names.proofs.schema.names_row.Goals as goal

pub returns : goal.returns
returns c = c.is_in_rows.ensures ∙ row_found c.args.text.now c.args.rows.now
