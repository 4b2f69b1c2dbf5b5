use Rattle.dir_ldif.proofs.ScanLemmas.{all_usual-safe}
use Rattle.dir_ldif.proofs.writer.all_safe.Goals as goal

pub returns-then-all_usual : goal.returns-then-all_usual
returns-then-all_usual c =
    let safe = all_usual-safe c.args.text.now (cc) in
    cc
