use Rattle.std.proofs.Common.{◌∙◌}
use Rattle.dir_change.proofs.JudgedParts.{one_of_same}
use Rattle.dir_change.proofs.judged.is_one_of.Goals as goal

pub returns : goal.returns
returns c = c.contains.ensures.value ∙ one_of_same c.args.attr.now c.args.keys.now
