use Rattle.std.proofs.lemmas.Grind.{common_steps}
use Rattle.std.proofs.Common.{sym, ap, ◌∙◌, arith}
use Rattle.dir_acl.proofs.EscapeSteps.{reads_at, reads_byte, reads_inside}
use Rattle.dir_acl.proofs.filter.assertion.read_value.Goals as goal
use Rattle.dir_acl.proofs.filter.assertion.read_value.Goals.{in-Byte+in_ok-push-in-Byte, in-Inside}

pub loop-b-preserved : goal.loop-b-preserved
loop-b-preserved c =
    let next = reads_at c.args.text.now c.loop-b.out.items c.loop-b.place c.loop-b.b-index (omega arith) c.loop-b.invariant in
    elim c.match-step_at.branch [
      | in-Byte+in_ok-push-in-Byte w ↦
          rw (w.place-is) (reads_byte _ _ _ _ _ next w.in-Byte.byte (sym c.step_at.ensures.step ∙ w.in-Byte.is) c.match-step_at.out.items (ap (λ v. v.items) w.out-is ∙ w.in_ok-push-in-Byte.ensures.items))
      | in-Inside w ↦ rw (w.out-is, w.place-is) (reads_inside _ _ _ _ _ next w.in-Inside.next (sym c.step_at.ensures.step ∙ w.in-Inside.is) w.in-Inside.ensures.digit)
    ]

pub returns-in-Refused : goal.returns-in-Refused
returns-in-Refused c = grind (arith, common_steps)

pub returns-then-is_outside : goal.returns-then-is_outside
returns-then-is_outside c = grind (arith, common_steps)

pub returns-else-is_outside : goal.returns-else-is_outside
returns-else-is_outside c = grind (arith, common_steps)
