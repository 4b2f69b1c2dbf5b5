use Rattle.dir_conf_text.proofs.WrittenArguments.{written_arguments}
use Rattle.dir_conf_text.proofs.laws.written_arguments_are_read.Goals as goal

pub returns : goal.returns
returns c = written_arguments
