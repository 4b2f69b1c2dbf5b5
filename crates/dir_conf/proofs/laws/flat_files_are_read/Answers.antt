use Rattle.dir_conf.proofs.FilesLaw.{files_read}
use Rattle.dir_conf.proofs.laws.flat_files_are_read.Goals as goal

pub returns : goal.returns
returns c = files_read
