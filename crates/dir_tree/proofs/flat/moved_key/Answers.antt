use Rattle.std.proofs.lemmas.Grind.{common_steps}
use Rattle.std.proofs.Common.{◌≡◌, ℕ, ◌+◌, ◌-◌, ◌≤◌, List, [], ◌++◌, drop, take, length, arith, length-drop, IfOk, Result, Ok, Err, Option, None, Some, refl, sym, ap, ◌∙◌, true≢false}
use Rattle.std.proofs.lemmas.List.{append-nil, length-take-le}
use Rattle.std.proofs.Math.Seq.{drop-append_seam}
use Rattle.std.proofs.Math.ListN.{drop_of_length-le}
use Rattle.dir_names.specs.declared.fault.NameFault.{NameFault}
use Rattle.dir_names.specs.Keys.{DnKeys, IsAtOrBelow}
use Rattle.dir_names.specs.Outcome.{Gives}
use Rattle.dir_tree.specs.Moves.{joined_or, moved_key, rest_below}
use Rattle.dir_tree.proofs.RestBelow.{rest_is, rest_of}
use Rattle.dir_tree.proofs.flat.moved_key.Goals as goal

-- what a call gives is the value that it must give
given : (r : Result DnKeys NameFault) (x : DnKeys) → Gives (λ z. z) r (Ok x) → IfOk r (λ m. m ≡ x)
given (Ok z) x g = let same : x ≡ z = cc in sym same
given (Err e) x g = tt

-- what holds of each value holds of the value of an answer
same_result : {A E : Type 0} (r : Result A E) (P Q : A → Type 0) → ((x : A) → P x → Q x) → IfOk r P → IfOk r Q
same_result (Ok x) P Q h p = h x p
same_result (Err e) P Q h p = p

-- a key that is not at or below the old one stays
pub returns-then-not-at_or_below : goal.returns-then-not-at_or_below
returns-then-not-at_or_below c =
    let none : rest_below c.args.old.now c.args.key.now ≡ None = by c.args.old.now c.args.key.now (λ below. true≢false (sym (c.at_or_below.ensures.1 below) ∙ c.if-not-at_or_below.true)) in
    same_result c.try_clone.result (λ m. m ≡ c.args.key.now) (λ m. m ≡ moved_key c.args.old.now c.args.new.now c.args.key.now) (λ m e. e ∙ sym (ap (joined_or c.args.new.now c.args.key.now) none)) (given c.try_clone.result c.args.key.now c.try_clone.ensures)
  where
    by : (above k : DnKeys) → (IsAtOrBelow k above → ⊥) → rest_below above k ≡ None
    by above k h = or (rest_below above k) refl
      where
        or : (o : Option DnKeys) → rest_below above k ≡ o → o ≡ None
        or None t = refl
        or (Some rest) t = absurd (h (rest, rest_is above k rest t))

-- the index is past the end of what follows
past : {A : Type 0} (parts key : List A) (depth old i : ℕ) → parts ≡ key → depth ≡ old → length (take (length parts - depth) (drop depth parts)) ≤ i → length key ≤ old + i
past parts key depth old i p d h =
    let whole = length-take-le (length parts - depth) (drop depth parts) in
    let rest = length-drop depth parts in
    let same = ap length p in
    omega (arith, h, whole, rest, same, d)

pub returns : goal.returns
returns c =
    let below = c.at_or_below.ensures.0 c.if-not-at_or_below.false in
    let moved : moved_key c.args.old.now c.args.new.now c.args.key.now ≡ c.args.new.now ++ below.0 = ap (moved_key c.args.old.now c.args.new.now) below.1 ∙ ap (joined_or c.args.new.now (c.args.old.now ++ below.0)) (rest_of c.args.old.now below.0) in
    let left : drop (length c.args.old.now) c.args.key.now ≡ below.0 = ap (drop (length c.args.old.now)) below.1 ∙ drop-append_seam c.args.old.now below.0 in
    let none : drop (length c.args.old.now + c.loop-part.part-index) c.args.key.now ≡ [] = drop_of_length-le c.args.key.now (past c.parts.result.now c.args.key.now c.depth.result (length c.args.old.now) c.loop-part.part-index c.parts.ensures.value c.depth.ensures.value c.loop-part-test.false) in
    sym (append-nil c.loop-part.moved) ∙ ap (λ z. c.loop-part.moved ++ z) (sym none) ∙ c.loop-part.invariant ∙ ap (λ z. c.args.new.now ++ z) left ∙ sym moved

pub slice_bounds-part-items-count : goal.slice_bounds-part-items-count
slice_bounds-part-items-count c = grind (arith, common_steps)

pub slice_bounds-part-items-start : goal.slice_bounds-part-items-start
slice_bounds-part-items-start c = grind (arith, common_steps)

pub loop-part-preserved : goal.loop-part-preserved
loop-part-preserved c = grind (arith, common_steps)
