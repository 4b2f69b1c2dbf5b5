use Rattle.dir_ldif.proofs.SoundTexts.{first_records_sound}
use Rattle.dir_ldif.proofs.laws.first_records_are_sound.Goals as goal

pub returns : goal.returns
returns c = first_records_sound
