use Rattle.std.proofs.Common.{ap, ◌∙◌}
use Rattle.dir_names.specs.Values.{value_key_cmp_total, value_key_cmp_exact}
use Rattle.dir_tree.specs.Inside.Stored.{value_pair, values_in}
use Rattle.dir_tree.proofs.SortedVecs.{map_in_none}
use Rattle.dir_tree.proofs.values.ValueMap.empty.Goals as goal

pub returns : goal.returns
returns c = ap (λ items. values_in items) c.empty.ensures ∙ map_in_none value_key_cmp_total value_pair value_key_cmp_exact
