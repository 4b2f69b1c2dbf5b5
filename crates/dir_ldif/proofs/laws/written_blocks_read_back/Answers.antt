use Rattle.dir_ldif.proofs.BlocksReadBack.{written_blocks-read}
use Rattle.dir_ldif.proofs.laws.written_blocks_read_back.Goals as goal

pub returns : goal.returns
returns c = written_blocks-read
