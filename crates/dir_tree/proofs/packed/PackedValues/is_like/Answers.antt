use Rattle.std.proofs.Common.{map, sym, ◌∙◌, true≢false}
use Rattle.std.proofs.lemmas.Slice.Eq.{slice_eq-Decides}
use Rattle.dir_names.specs.Orders.{bytes_eq_decides, dn_key_eq_decides}
use Rattle.dir_tree.specs.Inside.Packed.{packed_value}
use Rattle.dir_tree.proofs.Alike.{value_eq_decides}
use Rattle.dir_tree.proofs.packed.PackedValues.is_like.Goals as goal
use Rattle.dir_tree.proofs.packed.PackedValues.is_like.Goals.{then-eq, else-eq}

pub returns-then-eq-2 : goal.returns-then-eq-2
returns-then-eq-2 c = λ same_names. elim c.if-eq.branch [
  | then-eq w ↦
      let text = sym c.as_slice.ensures.value ∙ (bytes_eq_decides c.as_slice.result.now c.as_slice-2.result.now).0 (sym c.eq.ensures ∙ w.if-eq.true) ∙ c.as_slice-2.ensures.value in
      let values = sym w.as_slice-then-eq.ensures.value ∙ (slice_eq-Decides value_eq_decides w.as_slice-then-eq.result.now w.as_slice-then-eq-2.result.now w.eq-then-eq.result w.eq-then-eq.ensures).0 (sym w.value-is ∙ c.if-eq-2.true) ∙ w.as_slice-then-eq-2.ensures.value in
      let names = sym c.as_slice-then-eq-2-2.ensures.value ∙ (slice_eq-Decides dn_key_eq_decides c.as_slice-then-eq-2-2.result.now c.as_slice-then-eq-2-3.result.now c.eq-then-eq-2.result c.eq-then-eq-2.ensures).0 same_names ∙ c.as_slice-then-eq-2-3.ensures.value in
      sym c.self.view_is ∙ (λ i. map (packed_value (text i) (names i)) (values i)) ∙ c.other.view_is
  | else-eq w ↦ absurd (true≢false (sym c.if-eq-2.true ∙ w.value-is ∙ w.if-eq.false))
]
