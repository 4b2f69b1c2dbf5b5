use Rattle.dir_ldif.proofs.LongLinesStay.{long_lines-stay}
use Rattle.dir_ldif.proofs.laws.long_lines_stay.Goals as goal

pub returns : goal.returns
returns c = long_lines-stay
