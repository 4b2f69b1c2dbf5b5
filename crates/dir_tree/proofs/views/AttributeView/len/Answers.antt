use Rattle.std.proofs.Common.{sym, ap, subst, ◌∙◌}
use Rattle.std.specs.FinMap as fin
use Rattle.dir_names.specs.Values.{value_key_cmp_total}
use Rattle.dir_tree.specs.Inside.Packed.{values_of}
use Rattle.dir_tree.specs.Inside.Stored.{value_pair}
use Rattle.dir_tree.specs.Inside.Lent.{AreInOrder, lent_values}
use Rattle.dir_tree.proofs.SortedVecs.{len_in}
use Rattle.dir_tree.proofs.views.AttributeView.len.Goals as goal

pub returns-in-Packed : goal.returns-in-Packed
returns-in-Packed c =
    let rises = subst AreInOrder c.in-Packed.is c.self.invariant in
    c.len-in-Packed.ensures ∙ sym (len_in value_key_cmp_total value_pair (values_of c.in-Packed.values) rises)
    ∙ ap (λ v. fin.len (lent_values v)) (sym c.in-Packed.is) ∙ ap (λ a. fin.len a.stored.values) c.self.view_is
