use Rattle.std.proofs.Common.{sym, ◌∙◌}
use Rattle.std.specs.Str.{str_to_ascii_lowercase}
use Rattle.dir_names.proofs.IndexedNames.{number_err, number_ok}
use Rattle.dir_names.proofs.schema.index.row_number.Goals as goal

pub returns-in-Ok : goal.returns-in-Ok
returns-in-Ok c =
    sym (number_ok c.args.names.now c.requires (str_to_ascii_lowercase c.args.text.now) 0 c.in-Ok.at c.index-names-at.result (sym c.place_of.ensures.place ∙ c.in-Ok.is))

pub returns-in-Err : goal.returns-in-Err
returns-in-Err c =
    sym (number_err c.args.names.now c.requires (str_to_ascii_lowercase c.args.text.now) 0 c.in-Err.field-0 (sym c.place_of.ensures.place ∙ c.in-Err.is))
