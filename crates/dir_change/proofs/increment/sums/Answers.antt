use Rattle.std.proofs.Common.{◌≡◌, Some, sym, ap, ◌∙◌}
use mir.Syntax.{w128}
use mir.Val.{of_z, to_z}
use Rattle.dir_change.specs.Increment.{sum_text}
use Rattle.dir_change.proofs.IncrementedValues.{one_more_sum}
use Rattle.dir_change.proofs.increment.sums.Goals as goal

pub loop-value-preserved : goal.loop-value-preserved
loop-value-preserved c =
    let amount = to_z w128 (of_z w128 c.args.amount) in
    let is : sum_text amount c.in-Some.value.now ≡ Some c.in-Some-2.text = ap (sum_text amount) (sym c.as_slice.ensures) ∙ sym c.in_ok-text.ensures ∙ c.in-Some-2.is in
    one_more_sum amount c.args.attribute.now.stored.values c.loop-value.texts.items c.push.new.self.items c.loop-value.value-iterator c.next.new.self (c.in-Some.field-0-0.now, c.in-Some.value.now) c.in-Some-2.text
    c.loop-value.invariant c.in-Some.ensures.steps is c.in_ok-push.ensures.items
