use Rattle.std.proofs.Common.{◌≡◌, ◌+◌, ◌∷◌, drop, map, sym, ap, subst, ◌∙◌}
use Rattle.std.specs.FinMap as fin
use Rattle.dir_names.specs.declared.value.ValueKey.TheVariants.{Text}
use Rattle.dir_change.specs.Increment.{keyed_integer}
use Rattle.dir_change.specs.Modify.{values_with}
use Rattle.dir_change.proofs.IncrementedValues.{AreOwnKeys, insert_once, none_own, one_more_own}
use Rattle.dir_change.proofs.LookedParts.{left_here}
use Rattle.dir_change.proofs.increment.integers.Goals as goal

pub loop-text-init : goal.loop-text-init
loop-text-init c = (ap (λ values. values_with values (map keyed_integer c.args.texts.now)) (sym c.empty-values.ensures), subst AreOwnKeys (sym c.empty-values.ensures) none_own)

pub loop-text-preserved : goal.loop-text-preserved
loop-text-preserved c =
    let texts = c.args.texts.now in
    let values = c.loop-text.values in
    let i = c.loop-text.text-index in
    let text = c.text-item.result in
    let rest : drop i texts ≡ text ∷ drop (i + 1) texts = left_here texts i text c.loop-text-test.true c.text-item.is in
    let same : c.as_slice.result.now ≡ text = c.as_slice.ensures in
    let new : c.add_integer.new.values ≡ fin.insert values (Text text) text =
    c.in_ok-add_integer.ensures.ok ∙ insert_once values c.loop-text.invariant.1 c.as_slice.result.now ∙ ap (λ t. fin.insert values (Text t) t) same in (
      c.loop-text.invariant.0 ∙ ap (λ ts. values_with values (map keyed_integer ts)) rest ∙ ap (λ vs. values_with vs (map keyed_integer (drop (i + 1) texts))) (sym new),
      subst AreOwnKeys (sym new) (one_more_own values c.loop-text.invariant.1 text),
    )
