use Rattle.dir_names.proofs.FirstPlaces.{first_place}
use Rattle.dir_names.proofs.text.position_of.Goals as goal

pub returns-in_default : goal.returns-in_default
returns-in_default c = first_place _ c.args.text.now c.memchr.result c.memchr.ensures
