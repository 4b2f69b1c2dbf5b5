use Rattle.std.proofs.Common.{◌≡◌, ◌++◌, ◌<◌, ap, length, subst, ◌∙◌}
use Rattle.dir_ldif.specs.Bytes.{without_last}
use Rattle.dir_ldif.proofs.LogicalLineLemmas.{long_alone}
use Rattle.dir_ldif.proofs.reader.unfolder.Unfolder.push_partial_alone.Goals as goal

pub returns-then-without_cr-gt-MAX_LINE-clause-err : goal.returns-then-without_cr-gt-MAX_LINE-clause-err
returns-then-without_cr-gt-MAX_LINE-clause-err c =
    let j = c.args.self.now in
    let line = c.args.front.items ++ c.args.back.now in
    let same : c.without_cr.result.now ≡ without_last 13 line = c.without_cr.ensures ∙ ap (without_last 13) (c.as_slice.ensures.value ∙ c.in_ok-extend_from_slice.ensures.items) in
    λ text. long_alone j.marks c.requires.going j.begun j.block.items j.number line text c.requires.line (subst (λ t. 2097152 < length t) same c.if-without_cr-gt-MAX_LINE.true)
