use Rattle.dir_ldif.proofs.ReadIsLegal.{legal_of}
use Rattle.dir_ldif.proofs.reader.answer_of.Goals as goal

pub returns-in-Ok-clause-legal : goal.returns-in-Ok-clause-legal
returns-in-Ok-clause-legal c = legal_of c.args.schema.now c.args.block.now c.in-Ok.record c.in-Ok.ensures.read

pub returns-in-Ok-clause-sound : goal.returns-in-Ok-clause-sound
returns-in-Ok-clause-sound c = (legal_of c.args.schema.now c.args.block.now c.in-Ok.record c.in-Ok.ensures.read, c.in-Ok.ensures.sound)
