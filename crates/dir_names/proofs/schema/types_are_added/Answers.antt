use Rattle.dir_names.proofs.AddedTypes.{is_addition}
use Rattle.dir_names.proofs.schema.types_are_added.Goals as goal

pub returns : goal.returns
returns g = is_addition
