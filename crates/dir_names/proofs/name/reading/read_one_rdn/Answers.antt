use Rattle.std.proofs.Common.{◌≡◌, false, ◌∷◌, ap, ◌∙◌, rules}
use Rattle.dir_names.specs.Names.Reading.{pieces, only_rdn}
use Rattle.dir_names.specs.Names.Limits.{is_rdn_within_limit, ok_if_within}
use Rattle.dir_names.proofs.PieceLemmas.{only_more}
use Rattle.dir_names.proofs.name.reading.read_one_rdn.Goals as goal

pub returns-in-Some : goal.returns-in-Some
returns-in-Some c =
    let parted : pieces 44 false c.args.text.now ≡ c.split_once_unescaped.result.0.now ∷ pieces 44 false c.in-Some.field-0.now = search rules in
    ap (λ ps. ok_if_within is_rdn_within_limit (only_rdn ps)) parted ∙ ap (ok_if_within is_rdn_within_limit) (only_more c.split_once_unescaped.result.0.now 44 c.in-Some.field-0.now)
