use Rattle.dir_ldif.proofs.BlocksAtOnceLemmas.{texts-said}
use Rattle.dir_ldif.proofs.laws.texts_are_blocks.Goals as goal

pub returns : goal.returns
returns c = texts-said
