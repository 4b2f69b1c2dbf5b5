use Rattle.std.proofs.Common.{cond, ap, ◌∙◌}
use Rattle.std.specs.FinMap as fin
use Rattle.dir_tree.specs.Lent.{lent_key}
use Rattle.dir_tree.specs.Content.{StoredValues}
use Rattle.dir_change.proofs.LookedParts.{only_added}
use Rattle.dir_change.proofs.looked.only_value.Goals as goal

pub returns-clause-ok : goal.returns-clause-ok
returns-clause-ok c =
    let v = lent_key c.args.one in
    let bytes = c.args.bytes.now in
    c.in_ok-add_if_missing.ensures.ok
    ∙ ap (λ z. cond (fin.contains_key c.empty-values.result z) c.empty-values.result (fin.insert c.empty-values.result z bytes)) c.in_ok-key.ensures
    ∙ ap (λ (m : StoredValues). cond (fin.contains_key m v) m (fin.insert m v bytes)) c.empty-values.ensures
    ∙ only_added v bytes
