use Rattle.std.proofs.Common.{◌≡◌, None, Some, ap, ◌∙◌}
use Rattle.std.specs.FinMap as fin
use Rattle.dir_names.specs.declared.value.ValueKey.TheVariants.{Text}
use Rattle.dir_tree.specs.Slots.{with_slot}
use Rattle.dir_change.specs.Rename.{slot_without_value}
use Rattle.dir_change.proofs.AttributesBack.{slot_again}
use Rattle.dir_change.proofs.rename.remove_pair.Goals as goal

pub returns-in_ok-put-clause-ok : goal.returns-in_ok-put-clause-ok
returns-in_ok-put-clause-ok c =
    let xs = c.args.attributes.now in
    let k = c.args.pair.now.0 in
    let text_is = c.in-Ok.ensures in
    let text : c.in-Ok.text ≡ c.args.pair.now.1 = cc in
    let key : c.in-Some-without_value.left.key ≡ k = c.in-Some-without_value.ensures.key ∙ c.in-Some.ensures.key in
    c.in_ok-put.ensures.ok
    ∙ (λ i. fin.insert (c.take.ensures.rest i) (key i) c.in-Some-without_value.left.stored)
    ∙ slot_again xs k None (Some c.in-Some-without_value.left.stored)
    ∙ ap (with_slot xs k) (c.in-Some-without_value.ensures.slot ∙ (λ i. slot_without_value (Text (text i)) (c.in-Some.ensures.attribute i)))
