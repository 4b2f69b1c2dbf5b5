use Rattle.std.proofs.Common.{is_some, ap}
use Rattle.dir_tree.proofs.OwnLines.{keyed_rdn}
use Rattle.dir_change.proofs.rename.renamed_attributes.Goals as goal

pub add_missing-requires : goal.add_missing-requires
add_missing-requires c = keyed_rdn c.args.schema.now c.args.rdn.now (ap is_some c.requires)
