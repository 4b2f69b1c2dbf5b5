use Rattle.std.proofs.lemmas.Result.{on_ok_weaker}
use Rattle.dir_ldif.proofs.ReadIsSound.{printed_rdn_sound}
use Rattle.dir_ldif.proofs.writer.push_rdn.Goals as goal

pub returns-in-Ok-clause-sound : goal.returns-in-Ok-clause-sound
returns-in-Ok-clause-sound c = on_ok_weaker c.push_line.result (λ _. printed_rdn_sound c.args.rdn.now c.print.ensures.ascii c.print.ensures.read_back) c.push_line.ensures.text
