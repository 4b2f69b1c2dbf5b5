use Rattle.dir_ldif.proofs.ScanLemmas.{all_usual-no_end}
use Rattle.dir_ldif.proofs.reader.attrval.has_nul_or_cr.Goals as goal

pub returns-else-not-all_usual : goal.returns-else-not-all_usual
returns-else-not-all_usual c =
    let none = all_usual-no_end c.args.text.now (cc) in
    cc
