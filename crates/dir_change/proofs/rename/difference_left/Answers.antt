use Rattle.std.proofs.Common.{◌≡◌, true, ◌++◌, ◌∙◌, rules}
use Rattle.std.proofs.lemmas.Result.{IfOk-weaker}
use Rattle.dir_names.specs.Orders.{attr_cmp}
use Rattle.dir_names.specs.Sorted.{set_of}
use Rattle.dir_change.specs.Difference.{difference_at}
use Rattle.dir_change.specs.Rename.{renamed_attributes}
use Rattle.dir_change.specs.Inside.Touched.{IsPartAt, types_of}
use Rattle.dir_change.proofs.TouchedDifference.{left_of_parts}
use Rattle.dir_change.proofs.rename.difference_left.Goals as goal

pub returns-clause-ok : goal.returns-clause-ok
returns-clause-ok c =
    let rows = c.args.schema.now in
    let after = c.args.after.now in
    let before = c.args.before.now in
    let leaf = c.args.leaf.now in
    let new = c.args.key.now in
    let keys = c.as_slice-types.result.now in
    let fs = c.in_ok-attributes_at.field-0 in
    let gs = c.in_ok-before.before in
    let are : keys ≡ set_of attr_cmp (types_of new ++ types_of after.key ++ types_of before.key) = search rules in
    let first : IsPartAt keys after.attributes fs = c.in_ok-attributes_at.ensures.ok in
    let second : IsPartAt keys before.attributes gs = c.in_ok-before.ensures.ok in
    let left : c.in_ok-left.left ≡ renamed_attributes rows fs after.key leaf new true = search rules in
    IfOk-weaker c.difference.result _ _ (λ mods is. is ∙ (λ i. difference_at keys (left i) gs)
    ∙ left_of_parts rows after.attributes before.attributes fs gs after.key leaf new before.key c.requires.key c.requires.same keys are first second) c.difference.ensures.ok
