use Rattle.std.proofs.Common.{map, sym, ap, ◌∙◌}
use Rattle.std.specs.FinMap as fin
use Rattle.dir_names.specs.Orders.{attr_cmp_total}
use Rattle.dir_tree.specs.Inside.Stored.{attribute_pair}
use Rattle.dir_tree.proofs.SortedVecs.{entries_in}
use Rattle.dir_tree.proofs.attributes.AttributeMap.iter.Goals as goal

pub returns : goal.returns
returns c = ap (λ items. map attribute_pair items) c.iter.ensures ∙ sym (entries_in attr_cmp_total attribute_pair c.self.inside.items c.self.invariant) ∙ ap (λ m. fin.entries m) c.self.view_is
