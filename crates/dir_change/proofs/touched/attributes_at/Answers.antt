use Rattle.std.proofs.Common.{◌≡◌, Some, None, take, ◌+◌, subst, sym, rules}
use Rattle.std.specs.FinMap as fin
use Rattle.dir_change.specs.Inside.Touched.{IsPartAt}
use Rattle.dir_change.proofs.TouchedParts.{keys_so_far, part_of_none, part_with_one, part_without_one}
use Rattle.dir_change.proofs.touched.attributes_at.Goals as goal
use Rattle.dir_change.proofs.touched.attributes_at.Goals.{in-Some+in_ok-to_attribute+in_ok-put, in_default}

pub loop-key-init : goal.loop-key-init
loop-key-init c = part_of_none c.args.entry.now.attributes c.empty-part.result c.empty-part.ensures

pub loop-key-preserved : goal.loop-key-preserved
loop-key-preserved c =
    let keys = c.args.keys.now in
    let xs = c.args.entry.now.attributes in
    let part = c.loop-key.part in
    let new = c.match-attribute.part in
    let k = c.key-item.result in
    let i = c.loop-key.key-index in
    let so_far = keys_so_far keys i k c.loop-key-test.true c.key-item.is in
    elim c.match-attribute.branch as (λ b. IsPartAt (take (i + 1) keys) xs new) [
      | in-Some+in_ok-to_attribute+in_ok-put w ↦
          let a = w.in-Some.attribute in
          let there : Some a.stored ≡ fin.get xs k = search rules in
          let is : new ≡ fin.insert part k a.stored = search rules in
          subst (λ ks. IsPartAt ks xs new) (sym so_far) (part_with_one xs (take i keys) k part new c.loop-key.invariant a.stored there is)
      | in_default w ↦
          let none : None ≡ fin.get xs k = search rules in
          subst (λ ks. IsPartAt ks xs new) (sym so_far) (part_without_one xs (take i keys) k part new c.loop-key.invariant none w.part-is)
    ]
