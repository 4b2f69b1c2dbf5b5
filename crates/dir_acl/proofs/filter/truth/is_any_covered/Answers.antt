use Rattle.std.proofs.Common.{ap}
use Rattle.std.specs.Prelude.{◌&&◌}
use Rattle.std.specs.Option.{option_copied}
use Rattle.dir_names.specs.Covers.{covers}
use Rattle.dir_acl.specs.Truth.{has_matching}
use Rattle.dir_acl.proofs.NoAttributes.{none_is_so}
use Rattle.dir_acl.proofs.filter.truth.is_any_covered.Goals as goal

pub returns-in-None : goal.returns-in-None
returns-in-None c = none_is_so (λ a. covers c.args.attr.now a.0 && has_matching c.args.matching.now a.1) (option_copied c.args.entry) (ap option_copied c.in-None.is)
