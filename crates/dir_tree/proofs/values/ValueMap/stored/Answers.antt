use Rattle.std.proofs.Common.{sym, ap, ◌∙◌}
use Rattle.std.specs.FinMap as fin
use Rattle.std.proofs.lemmas.List.{map-id}
use Rattle.dir_names.specs.Values.{value_key_cmp_total}
use Rattle.dir_tree.specs.Inside.Stored.{value_pair}
use Rattle.dir_tree.proofs.SortedVecs.{entries_in}
use Rattle.dir_tree.proofs.values.ValueMap.stored.Goals as goal

pub returns : goal.returns
returns c = c.iter.ensures ∙ sym (entries_in value_key_cmp_total value_pair c.self.inside.items c.self.invariant ∙ map-id c.self.inside.items) ∙ ap (λ m. fin.entries m) c.self.view_is
