use Rattle.std.proofs.Common.{arith}
use Rattle.std.proofs.lemmas.Grind.{common_steps}
use Rattle.dir_tree.proofs.packed.packing.pooled_key.Goals as goal

pub returns-in_ok-end-in-Text-clause-key : goal.returns-in_ok-end-in-Text-clause-key
returns-in_ok-end-in-Text-clause-key c = grind (arith, common_steps)
