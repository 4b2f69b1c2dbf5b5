use Rattle.dir_tools.proofs.AccessBack.{access_as_before}
use Rattle.dir_tools.proofs.laws.access_is_as_before.Goals as goal

pub returns : goal.returns
returns c = access_as_before c.copies_are_sound.ensures c.canonical_texts_read_back.ensures c.headline.ensures
