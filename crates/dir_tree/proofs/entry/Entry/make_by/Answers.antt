use Rattle.std.proofs.Common.{◌≡◌, true, Option, Some, None, is_some, Ok, refl}
use Rattle.dir_names.specs.Keys.{RdnKeys}
use Rattle.dir_names.specs.NameKeys.{rdn_key}
use Rattle.dir_tree.specs.declared.fault.EntryFault.TheVariants.{NotNamed}
use Rattle.std.specs.Option.{ok_or}
use Rattle.dir_tree.specs.NewEntry.{}
use Rattle.dir_tree.proofs.OwnLines.{keyed_rdn}
use Rattle.dir_tree.proofs.entry.Entry.make_by.Goals as goal

there : (o : Option RdnKeys) (key : RdnKeys) → ok_or o NotNamed ≡ Ok key → is_some o ≡ true
there None key e = absurd (cc)
there (Some k) key e = refl

pub add_missing-requires : goal.add_missing-requires
add_missing-requires c = keyed_rdn c.args.schema.now c.in-Some.leaf.now (there (rdn_key c.args.schema.now c.in-Some.leaf.now) c.in_ok-key.key c.in_ok-key.ensures)
