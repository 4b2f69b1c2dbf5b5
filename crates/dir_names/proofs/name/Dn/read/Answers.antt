use Rattle.dir_names.proofs.ReadsSpells.{name_exact, answer_spelled, answer_no_name, answer_past}
use Rattle.dir_names.proofs.name.Dn.read.Goals as goal

pub returns-clause-spelled : goal.returns-clause-spelled
returns-clause-spelled c = answer_spelled c.args.text.now c.read_name.result c.read_name.ensures

pub returns-clause-no_name : goal.returns-clause-no_name
returns-clause-no_name c = answer_no_name c.args.text.now c.read_name.result c.read_name.ensures

pub returns-clause-past_limits : goal.returns-clause-past_limits
returns-clause-past_limits c = answer_past c.args.text.now c.read_name.result c.read_name.ensures

pub returns-clause-exact : goal.returns-clause-exact
returns-clause-exact c = name_exact c.args.text.now c.read_name.result c.read_name.ensures
