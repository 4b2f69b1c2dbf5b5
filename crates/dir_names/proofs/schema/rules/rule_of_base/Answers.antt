use Rattle.std.proofs.Common.{rules}
use Rattle.dir_names.specs.Types.Adding.{base_rules}
use Rattle.dir_names.proofs.schema.rules.rule_of_base.Goals as goal

pub returns : goal.returns
unfolding base_rules
returns c = search rules
