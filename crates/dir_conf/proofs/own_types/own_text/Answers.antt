use Rattle.std.proofs.Common.{refl}
use Rattle.dir_conf.specs.Flat.{type_text}
use Rattle.dir_conf.specs.OwnTypes.{own_types}
use Rattle.dir_conf.proofs.own_types.own_text.Goals as goal

pub returns : goal.returns
unfolding type_text own_types
returns c = refl
