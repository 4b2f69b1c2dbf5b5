use Rattle.dir_names.proofs.AsciiFolding.{same_test}
use Rattle.dir_names.proofs.value.folding.is_ascii.Goals as goal

pub returns : goal.returns
returns c = same_test c.args.text.now c.is_ascii.result c.is_ascii.ensures.cases
