use Rattle.std.proofs.Common.{ap, ◌∙◌}
use Rattle.dir_names.specs.Orders.{attr_cmp_total, attr_cmp_exact}
use Rattle.dir_tree.specs.Inside.Stored.{attribute_pair, attributes_in}
use Rattle.dir_tree.proofs.SortedVecs.{map_in_none}
use Rattle.dir_tree.proofs.attributes.AttributeMap.empty.Goals as goal

pub returns : goal.returns
returns c = ap (λ items. attributes_in items) c.empty.ensures ∙ map_in_none attr_cmp_total attribute_pair attr_cmp_exact
