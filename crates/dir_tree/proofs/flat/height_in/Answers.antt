use Rattle.std.proofs.lemmas.Grind.{common_steps}
use Rattle.std.proofs.Common.{◌≡◌, ◌+◌, max, map, length, Option, None, Some, refl, sym, ap, ◌∙◌, arith, length-append, true≢false}
use Rattle.dir_names.specs.Keys.{DnKeys, IsAtOrBelow}
use Rattle.dir_tree.specs.Moves.{greatest, length_or_zero, rest_below}
use Rattle.dir_tree.proofs.RestBelow.{rest_is, rest_of}
use Rattle.dir_tree.proofs.flat.height_in.Goals as goal

pub loop-below-preserved-then-deeper-height : goal.loop-below-preserved-then-deeper-height
loop-below-preserved-then-deeper-height c =
    let below = c.at_or_below.ensures.0 c.if-at_or_below.true in
    let here : length_or_zero (rest_below c.args.key.now c.in-Some.below.now) ≡ length below.0 = ap length_or_zero (ap (rest_below c.args.key.now) below.1 ∙ rest_of c.args.key.now below.0) in
    let count : length c.in-Some.below.now ≡ length c.args.key.now + length below.0 = ap length below.1 ∙ length-append c.args.key.now below.0 in
    let so_far = ap (λ es. max c.loop-below.height (greatest (map (λ p. length_or_zero (rest_below c.args.key.now p.0)) es))) (sym c.in-Some.ensures.steps) ∙ c.loop-below.invariant in
    omega (arith, here, count, so_far)

pub loop-below-preserved-else-deeper-height : goal.loop-below-preserved-else-deeper-height
loop-below-preserved-else-deeper-height c =
    let below = c.at_or_below.ensures.0 c.if-at_or_below.true in
    let here : length_or_zero (rest_below c.args.key.now c.in-Some.below.now) ≡ length below.0 = ap length_or_zero (ap (rest_below c.args.key.now) below.1 ∙ rest_of c.args.key.now below.0) in
    let count : length c.in-Some.below.now ≡ length c.args.key.now + length below.0 = ap length below.1 ∙ length-append c.args.key.now below.0 in
    let so_far = ap (λ es. max c.loop-below.height (greatest (map (λ p. length_or_zero (rest_below c.args.key.now p.0)) es))) (sym c.in-Some.ensures.steps) ∙ c.loop-below.invariant in
    omega (arith, here, count, so_far)

pub loop-below-preserved : goal.loop-below-preserved
loop-below-preserved c =
    let none : rest_below c.args.key.now c.in-Some.below.now ≡ None = by c.args.key.now c.in-Some.below.now (λ below. true≢false (sym (c.at_or_below.ensures.1 below) ∙ c.if-at_or_below.false)) in
    let here : length_or_zero (rest_below c.args.key.now c.in-Some.below.now) ≡ 0 = ap length_or_zero none in
    let so_far = ap (λ es. max c.loop-below.height (greatest (map (λ p. length_or_zero (rest_below c.args.key.now p.0)) es))) (sym c.in-Some.ensures.steps) ∙ c.loop-below.invariant in
    omega (arith, here, so_far)
  where
    by : (above k : DnKeys) → (IsAtOrBelow k above → ⊥) → rest_below above k ≡ None
    by above k h = or (rest_below above k) refl
      where
        or : (o : Option DnKeys) → rest_below above k ≡ o → o ≡ None
        or None t = refl
        or (Some rest) t = absurd (h (rest, rest_is above k rest t))

pub overflow_sub-deeper : goal.overflow_sub-deeper
overflow_sub-deeper c = grind (arith, common_steps)
