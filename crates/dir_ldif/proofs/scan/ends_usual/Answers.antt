use Rattle.std.proofs.Common.{◌-◌, length, arith}
use Rattle.std.proofs.lemmas.List.{take_rest}
use Rattle.dir_ldif.specs.Inside.Usual.{is_usual}
use Rattle.dir_ldif.proofs.ScanLemmas.{all-covered}
use Rattle.dir_ldif.proofs.scan.ends_usual.Goals as goal

pub returns : goal.returns
returns g c =
    let text = c.args.text.now in
    let from = length text - g.row.N in
    rw (c.each_usual.ensures, c.each_usual-2.ensures, take_rest text from) (all-covered is_usual text g.row.N from (omega arith))
