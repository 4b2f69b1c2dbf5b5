use Rattle.dir_ldif.proofs.PhysicalLines.{lines-folded}
use Rattle.dir_ldif.proofs.laws.written_lines_are_folded.Goals as goal

pub returns : goal.returns
returns c = lines-folded
