use Rattle.std.proofs.Common.{◌≡◌, Some, None, drop, ◌+◌, ◌∷◌, subst, rules}
use Rattle.std.specs.FinMap as fin
use Rattle.dir_change.specs.Inside.Looked.{LooksAt}
use Rattle.dir_change.proofs.LookedParts.{AreLooksSoFar, left_among, left_here, none_looked, none_so_far, one_looked}
use Rattle.dir_change.proofs.looked.looked_at.Goals as goal
use Rattle.dir_change.proofs.looked.looked_at.Goals.{in-Some+in_ok-looked_part+in_ok-put, in_default}

pub loop-key-init : goal.loop-key-init
loop-key-init c = none_so_far c.args.schema.now c.args.entry.now.key c.args.mods.now c.args.keys.now c.args.entry.now.attributes c.empty-before.result c.empty-before.ensures

pub loop-key-preserved : goal.loop-key-preserved
loop-key-preserved c =
    let rows = c.args.schema.now in
    let own = c.args.entry.now.key in
    let mods = c.args.mods.now in
    let keys = c.args.keys.now in
    let xs = c.args.entry.now.attributes in
    let before = c.loop-key.before in
    let new = c.match-attribute.before in
    let k = c.key-item.result in
    let i = c.loop-key.key-index in
    let rest = drop (i + 1) keys in
    let here : drop i keys ≡ k ∷ rest = left_here keys i k c.loop-key-test.true c.key-item.is in
    let among = left_among keys rest i k here in
    let so : AreLooksSoFar rows own mods keys xs before (k ∷ rest) = subst (AreLooksSoFar rows own mods keys xs before) here c.loop-key.invariant in
    elim c.match-attribute.branch as (λ b. AreLooksSoFar rows own mods keys xs new rest) [
      | in-Some+in_ok-looked_part+in_ok-put w ↦
          let a = w.in-Some.attribute in
          let part = w.in_ok-looked_part.field-0 in
          let same : a.key ≡ k = search rules in
          let there : Some a.stored ≡ fin.get xs k = search rules in
          let is : new ≡ fin.insert before k part.stored = search rules in
          let looks : LooksAt rows own mods k (fin.get xs k) (Some part.stored) =
          subst (λ o. LooksAt rows own mods k o (Some part.stored)) there (subst (λ z. LooksAt rows own mods z (Some a.stored) (Some part.stored)) same (subst (λ o. LooksAt rows o mods a.key (Some a.stored) (Some part.stored)) w.key.ensures w.in_ok-looked_part.ensures.looks)) in
          one_looked rows own mods keys xs k rest among before new so part.stored looks is
      | in_default w ↦
          let none : fin.get xs k ≡ None = search rules in
          none_looked rows own mods keys xs k rest among before new so none w.before-is
    ]
