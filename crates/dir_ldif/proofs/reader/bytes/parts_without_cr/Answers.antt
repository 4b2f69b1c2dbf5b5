use Rattle.std.proofs.Common.{◌++◌, ap, ◌∙◌}
use Rattle.dir_ldif.proofs.PartialLines.{part_text}
use Rattle.dir_ldif.proofs.reader.bytes.parts_without_cr.Goals as goal

pub returns-else-is_empty-2-clause-text : goal.returns-else-is_empty-2-clause-text
returns-else-is_empty-2-clause-text c =
    ap (λ t. c.args.front.now ++ t) c.without_cr-else-is_empty-2.ensures ∙ part_text c.args.front.now c.args.back.now (cc)
