use Rattle.dir_ldif.proofs.SoundTexts.{records_sound}
use Rattle.dir_ldif.proofs.laws.records_are_sound.Goals as goal

pub returns : goal.returns
returns c = records_sound
