use Rattle.dir_names.proofs.ReadsSpells.{rdn_exact, rdn_spelled, rdn_no_name, rdn_past}
use Rattle.dir_names.proofs.name.Rdn.read.Goals as goal

pub returns-clause-spelled : goal.returns-clause-spelled
returns-clause-spelled c = rdn_spelled c.args.text.now c.read_one_rdn.result c.read_one_rdn.ensures

pub returns-clause-no_name : goal.returns-clause-no_name
returns-clause-no_name c = rdn_no_name c.args.text.now c.read_one_rdn.result c.read_one_rdn.ensures

pub returns-clause-past_limits : goal.returns-clause-past_limits
returns-clause-past_limits c = rdn_past c.args.text.now c.read_one_rdn.result c.read_one_rdn.ensures

pub returns-clause-exact : goal.returns-clause-exact
returns-clause-exact c = rdn_exact c.args.text.now c.read_one_rdn.result c.read_one_rdn.ensures
