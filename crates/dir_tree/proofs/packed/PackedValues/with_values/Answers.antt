use Rattle.std.proofs.Common.{◌≡◌, ◌++◌, IfOk, sym, ap, subst, ◌∙◌}
use Rattle.std.specs.FinMap as fin
use Rattle.std.proofs.lemmas.List.{map-id}
use Rattle.dir_names.specs.Values.{value_key_cmp_total}
use Rattle.dir_tree.specs.Inside.Packed.{values_of}
use Rattle.dir_tree.specs.Inside.Stored.{value_pair}
use Rattle.dir_tree.specs.Inside.Lent.{AreInOrder, lent_values}
use Rattle.dir_tree.proofs.SortedVecs.{entries_in}
use Rattle.dir_tree.proofs.packed.PackedValues.with_values.Goals as goal

pub returns-in-Packed : goal.returns-in-Packed
returns-in-Packed c =
    let rises = subst AreInOrder c.in-Packed.is c.lent.ensures.order in
    let same : values_of c.in-Packed.values ≡ fin.entries c.args.attribute.now.stored.values =
    sym (entries_in value_key_cmp_total value_pair (values_of c.in-Packed.values) rises ∙ map-id (values_of c.in-Packed.values))
    ∙ ap (λ v. fin.entries (lent_values v)) (sym c.in-Packed.is)
    ∙ ap fin.entries c.lent.ensures.values in
    subst (λ values. IfOk c.with_packed.result (λ p. p ≡ c.args.self ++ values)) same c.with_packed.ensures
