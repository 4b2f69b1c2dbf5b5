use Rattle.std.proofs.Common.{[], ◌∷◌, ap, ◌∙◌}
use Rattle.dir_names.specs.Values.{value_key_cmp_total, value_key_cmp_exact}
use Rattle.dir_tree.specs.Inside.Stored.{value_pair, values_in}
use Rattle.dir_tree.proofs.SortedVecs.{one_in}
use Rattle.dir_tree.proofs.values.ValueMap.one.Goals as goal

pub returns : goal.returns
returns c =
    let items = c.one.ensures ∙ ap (λ value. value ∷ []) c.new.ensures in
    ap (λ items. values_in items) items ∙ one_in value_key_cmp_total value_pair value_key_cmp_exact (c.args.key, c.args.bytes)
