use Rattle.dir_names.proofs.ReadsDefinition.{answer_defined, answer_exact, answer_none}
use Rattle.dir_names.proofs.schema.definition.TypeDefinition.read.Goals as goal

pub returns-clause-defined : goal.returns-clause-defined
returns-clause-defined c = answer_defined c.args.text.now c.read_definition.result c.read_definition.ensures

pub returns-clause-exact : goal.returns-clause-exact
returns-clause-exact c = answer_exact c.args.text.now c.read_definition.result c.read_definition.ensures

pub returns-clause-none : goal.returns-clause-none
returns-clause-none c = answer_none c.args.text.now c.read_definition.result c.read_definition.ensures
