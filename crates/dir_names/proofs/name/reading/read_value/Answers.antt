use Rattle.std.proofs.Common.{◌≡◌, length, sym, ap, ◌∙◌, arith}
use Rattle.std.proofs.lemmas.Grind.{common_steps}
use Rattle.dir_names.proofs.ValueSteps.{reads_at, reads_space, reads_byte, reads_inside}
use Rattle.dir_names.proofs.name.reading.read_value.Goals as goal
use Rattle.dir_names.proofs.name.reading.read_value.Goals.{in-Space+in_ok-push-in-Space, in-Byte+in_ok-push-in-Byte, in-Inside}

pub loop-b-preserved : goal.loop-b-preserved
loop-b-preserved c =
    let next = reads_at c.args.text.now c.loop-b.out.items c.loop-b.kept c.loop-b.place c.loop-b.b-index (omega arith) c.loop-b.invariant in
    elim c.match-step_at.branch [
      | in-Space+in_ok-push-in-Space w ↦
          rw (w.kept-is, w.place-is) (reads_space _ _ _ _ _ _ next (sym c.step_at.ensures.step ∙ w.in-Space.is) c.match-step_at.out.items (ap (λ v. v.items) w.out-is ∙ w.in_ok-push-in-Space.ensures.items))
      | in-Byte+in_ok-push-in-Byte w ↦
          let count : c.match-step_at.kept ≡ length c.match-step_at.out.items = grind (arith, common_steps) in
          rw (count, w.place-is) (reads_byte _ _ _ _ _ _ next w.in-Byte.byte (sym c.step_at.ensures.step ∙ w.in-Byte.is) c.match-step_at.out.items (ap (λ v. v.items) w.out-is ∙ w.in_ok-push-in-Byte.ensures.items))
      | in-Inside w ↦ rw (w.out-is, w.kept-is, w.place-is) (reads_inside _ _ _ _ _ _ next w.in-Inside.next (sym c.step_at.ensures.step ∙ w.in-Inside.is) w.in-Inside.ensures.digit)
    ]

pub returns-in-Refused : goal.returns-in-Refused
returns-in-Refused c = grind (arith, common_steps)

pub returns-then-not-is_outside : goal.returns-then-not-is_outside
returns-then-not-is_outside c = grind (arith, common_steps)

pub returns : goal.returns
returns c = grind (arith, common_steps)
