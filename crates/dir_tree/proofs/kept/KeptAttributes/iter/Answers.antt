use Rattle.std.proofs.Common.{◌++◌, map, sym, ap, subst, ◌∙◌}
use Rattle.std.specs.FinMap as fin
use Rattle.dir_names.specs.Orders.{attr_cmp_total}
use Rattle.dir_tree.specs.Inside.Kept.{IsInOrder, kept_attributes}
use Rattle.dir_tree.specs.Inside.Stored.{attribute_pair}
use Rattle.dir_tree.proofs.SortedVecs.{entries_in}
use Rattle.dir_tree.proofs.kept.KeptAttributes.iter.Goals as goal

pub returns-in-Packed : goal.returns-in-Packed
returns-in-Packed c =
    let rises = subst IsInOrder c.in-Packed.is c.self.invariant in
    ap (λ none. none ++ map attribute_pair c.iter-in-Packed.result) c.none-in-Packed.ensures
    ∙ ap (map attribute_pair) c.iter-in-Packed.ensures
    ∙ sym (entries_in attr_cmp_total attribute_pair c.in-Packed.packed rises)
    ∙ ap (λ form. fin.entries (kept_attributes form)) (sym c.in-Packed.is) ∙ ap (λ m. fin.entries m) c.self.view_is
