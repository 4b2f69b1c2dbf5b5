use Rattle.std.proofs.Common.{◌≡◌, true, false, ◌||◌, sym, ap, ◌∙◌}
use Rattle.dir_tree.specs.ChangedEntry.{has_own_values}
use Rattle.dir_tree.specs.NewEntry.{exceeds_single_value}
use Rattle.dir_change.specs.Inside.Overlaid.{overlaid}
use Rattle.dir_change.specs.Modify.{with_attributes}
use Rattle.dir_change.proofs.JudgedParts.{exceeds_either, is_fine, is_too_many}
use Rattle.dir_change.proofs.judged.judge.Goals as goal
use Rattle.dir_change.proofs.judged.judge.Goals.{then-others_exceed-via-then-others_exceed, then-others_exceed-via-else-others_exceed+then-exceeds_single_value}

pub returns-then-others_exceed-clause-refused : goal.returns-then-others_exceed-clause-refused
returns-then-others_exceed-clause-refused c =
    let rows = c.args.schema.now in
    let e = c.args.entry.now in
    let ks = c.args.keys.now in
    let fs = c.args.after.now in
    let own : has_own_values (with_attributes e (overlaid e.attributes ks fs)) ≡ true = sym c.if-not-has_own_values.ensures in
    let either = exceeds_either rows e.attributes fs ks c.requires in
    elim c.then-others_exceed.branch [
      | then-others_exceed-via-then-others_exceed w ↦ is_too_many rows (with_attributes e (overlaid e.attributes ks fs)) own (sym either ∙ ap (λ b. b || exceeds_single_value rows fs) (sym w.if-others_exceed.ensures))
      | then-others_exceed-via-else-others_exceed+then-exceeds_single_value w ↦ is_too_many rows (with_attributes e (overlaid e.attributes ks fs)) own (sym either ∙ (λ i. sym w.if-others_exceed.ensures i || sym w.if-exceeds_single_value.ensures i))
    ]

pub returns-clause-ok : goal.returns-clause-ok
returns-clause-ok c =
    let rows = c.args.schema.now in
    let e = c.args.entry.now in
    let ks = c.args.keys.now in
    let fs = c.args.after.now in
    let own : has_own_values (with_attributes e (overlaid e.attributes ks fs)) ≡ true = sym c.if-not-has_own_values.ensures in
    let few : exceeds_single_value rows (overlaid e.attributes ks fs) ≡ false = sym (exceeds_either rows e.attributes fs ks c.requires) ∙ (λ i. sym c.if-others_exceed.ensures i || sym c.if-exceeds_single_value.ensures i) in
    is_fine rows (with_attributes e (overlaid e.attributes ks fs)) own few
