use Rattle.dir_ldif.proofs.MarkedGroups.{groups-read}
use Rattle.dir_ldif.proofs.laws.marked_groups_read_back.Goals as goal

pub returns : goal.returns
returns c = groups-read
