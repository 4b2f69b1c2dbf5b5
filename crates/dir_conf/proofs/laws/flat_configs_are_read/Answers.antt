use Rattle.dir_conf.proofs.ConfigLaw.{configs_read}
use Rattle.dir_conf.proofs.laws.flat_configs_are_read.Goals as goal

pub returns : goal.returns
returns c = configs_read
