use Rattle.dir_tools.proofs.SoundCopies.{copies_sound}
use Rattle.dir_tools.proofs.laws.copies_are_sound.Goals as goal

pub returns : goal.returns
returns c = copies_sound c.records_are_sound.ensures
