use Rattle.std.proofs.Common.{ap, sym, ◌∙◌}
use Rattle.std.proofs.lemmas.Slice.Eq.{slice_eq-Decides}
use Rattle.dir_tree.proofs.Alike.{attribute_eq_decides}
use Rattle.dir_tree.proofs.packed.sharing.find_shape.Goals as goal

pub returns-then-eq : goal.returns-then-eq
returns-then-eq c =
    sym (c.as_slice.ensures.value ∙ ap (λ v. v.items) c.deref.ensures)
    ∙ (slice_eq-Decides attribute_eq_decides c.as_slice.result.now c.args.attributes.now c.eq.result c.eq.ensures).0 c.if-eq.true
