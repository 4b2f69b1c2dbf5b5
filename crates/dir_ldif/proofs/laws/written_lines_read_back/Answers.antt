use Rattle.dir_ldif.proofs.WrittenLines.{written_line-reads}
use Rattle.dir_ldif.proofs.laws.written_lines_read_back.Goals as goal

pub returns : goal.returns
returns c = written_line-reads
