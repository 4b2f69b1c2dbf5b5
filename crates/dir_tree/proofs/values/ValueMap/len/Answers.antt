use Rattle.std.proofs.Common.{sym, ap, ◌∙◌}
use Rattle.std.specs.FinMap as fin
use Rattle.dir_names.specs.Values.{value_key_cmp_total}
use Rattle.dir_tree.specs.Inside.Stored.{value_pair}
use Rattle.dir_tree.proofs.SortedVecs.{len_in}
use Rattle.dir_tree.proofs.values.ValueMap.len.Goals as goal

pub returns : goal.returns
returns c = c.len.ensures ∙ sym (len_in value_key_cmp_total value_pair c.self.inside.items c.self.invariant) ∙ ap (λ m. fin.len m) c.self.view_is
