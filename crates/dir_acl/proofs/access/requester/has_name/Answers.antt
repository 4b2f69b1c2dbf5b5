use Rattle.std.proofs.Common.{ap}
use Rattle.std.specs.Prelude.{◌&&◌}
use Rattle.std.specs.FinMap as fin
use Rattle.std.specs.Option.{option_copied}
use Rattle.dir_names.specs.Covers.{covers}
use Rattle.dir_names.specs.declared.value.ValueKey.TheVariants.{Name}
use Rattle.dir_acl.proofs.NoAttributes.{none_is_so}
use Rattle.dir_acl.proofs.access.requester.has_name.Goals as goal

pub returns-in-None : goal.returns-in-None
returns-in-None c = none_is_so (λ a. covers c.args.attr.now a.0 && fin.contains_key a.1.values (Name c.args.name.now)) (option_copied c.args.entry) (ap option_copied c.in-None.is)
