use Rattle.dir_ldif.proofs.MarkedGroups.{marks-known}
use Rattle.dir_ldif.proofs.laws.marks_are_known.Goals as goal

pub returns : goal.returns
returns c = marks-known
