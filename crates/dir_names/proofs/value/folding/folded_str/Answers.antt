use Rattle.std.proofs.Common.{Ok, ap, sym, ◌∙◌}
use Rattle.dir_names.proofs.AsciiFolding.{folded_by}
use Rattle.dir_names.proofs.value.folding.folded_str.Goals as goal

pub returns : goal.returns
returns c =
    let small = c.as_str.ensures.value ∙ c.in_ok-small.ensures in
    let whole = ap (λ v. v.items) c.into_bytes.ensures.value ∙ c.in_ok-to_nfkc.ensures in
    ap Ok (sym (folded_by c.args.text.now c.as_str.result.now c.into_bytes.result.items c.as_str.utf8 small whole))
