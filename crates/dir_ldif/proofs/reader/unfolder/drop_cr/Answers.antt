use Rattle.std.proofs.Common.{◌≡◌, length, take, ap, ◌∙◌}
use Rattle.dir_ldif.specs.Bytes.{without_last}
use Rattle.dir_ldif.proofs.BytesLemmas.{take-without_last}
use Rattle.dir_ldif.proofs.reader.unfolder.drop_cr.Goals as goal

pub returns : goal.returns
returns c =
    let text = c.args.text.now.items in
    let same : length c.without_cr-length.result.now ≡ length (without_last 13 text) = cc in
    c.truncate.ensures.items ∙ ap (λ n. take n text) same ∙ take-without_last 13 text
