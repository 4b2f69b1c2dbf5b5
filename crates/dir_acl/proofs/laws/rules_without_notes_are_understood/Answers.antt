use Rattle.dir_acl.proofs.NoNotes.Lines.{understood}
use Rattle.dir_acl.proofs.laws.rules_without_notes_are_understood.Goals as goal

pub returns : goal.returns
returns c = understood
