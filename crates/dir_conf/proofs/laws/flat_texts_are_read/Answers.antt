use Rattle.dir_conf.proofs.FlatLaw.{flat_reads}
use Rattle.dir_conf.proofs.laws.flat_texts_are_read.Goals as goal

pub returns : goal.returns
returns c = flat_reads
