use Rattle.std.proofs.Common.{◌≡◌, take, ap, sym, ◌∙◌, arith}
use Rattle.dir_names.specs.ValueKeys.Spaces.{without_trailing_spaces}
use Rattle.dir_names.proofs.Tidy.{end_falls, end_stays}
use Rattle.dir_names.proofs.value.spaces.without_trailing_spaces.Goals as goal
use Rattle.dir_names.proofs.value.spaces.without_trailing_spaces.Goals.{then-loop-end-test+else-text-end-eq32, else-loop-end-test}

pub loop-end-preserved : goal.loop-end-preserved
loop-end-preserved c =
    (omega arith, c.loop-end.invariant.1 ∙ end_falls c.args.text.now c.loop-end.end (omega arith) c.loop-end.invariant.0 c.if-text-end-eq32.true)

pub returns : goal.returns
returns c =
    elim c.loop-end-test.branch [
      | then-loop-end-test+else-text-end-eq32 w ↦ sym (c.loop-end.invariant.1 ∙ end_stays c.args.text.now c.loop-end.end (omega arith) c.loop-end.invariant.0 w.if-text-end-eq32.false)
      | else-loop-end-test w ↦ let none : c.loop-end.end ≡ 0 = omega arith in ap (λ n. take n c.args.text.now) none ∙ sym (c.loop-end.invariant.1 ∙ ap (λ n. without_trailing_spaces (take n c.args.text.now)) none)
    ]
