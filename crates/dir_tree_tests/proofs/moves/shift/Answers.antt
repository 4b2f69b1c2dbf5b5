use Rattle.std.proofs.Common.{◌≡◌, inr, None, Option, Some, is_some, refl, sym, ap, ◌∙◌, true≢false}
use Rattle.dir_names.specs.Keys.{DnKeys, IsAtOrBelow}
use Rattle.dir_names.specs.Orders.{dn_key_eq_decides}
use Rattle.dir_tree.specs.Moves.{rest_below}
use Rattle.dir_tree.proofs.RestBelow.{rest_is}
use Rattle.dir_tree.proofs.TreeWrites.{mapped_some, no_entry}
use Rattle.dir_tree_tests.proofs.moves.shift.Goals as goal

outside : (above k : DnKeys) → (IsAtOrBelow k above → ⊥) → rest_below above k ≡ None
outside above k h = by (rest_below above k) refl
  where
    by : (o : Option DnKeys) → rest_below above k ≡ o → o ≡ None
    by None t = refl
    by (Some rest) t = absurd (h (rest, rest_is above k rest t))

pub move_subtree-requires-clause-inner : goal.move_subtree-requires-clause-inner
move_subtree-requires-clause-inner g c same =
    true≢false (sym ((dn_key_eq_decides c.args.old.now c.suffix.result.now).1 (same ∙ sym c.suffix.ensures.key)) ∙ sym c.eq.ensures ∙ c.if-eq.false)

pub move_subtree-requires-clause-place : goal.move_subtree-requires-clause-place
move_subtree-requires-clause-place g c = inr (
  no_entry _ (λ there. true≢false (sym there ∙ sym (ap is_some c.get-2.ensures) ∙ sym (mapped_some c.get-2.result) ∙ sym c.is_some.ensures ∙ c.if-is_some.false)),
  outside c.args.old.now c.args.new.now (λ below. true≢false (sym (c.at_or_below.ensures.1 below) ∙ c.if-at_or_below.false)),
)
