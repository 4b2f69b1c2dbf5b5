use Rattle.std.proofs.lemmas.Grind.{common_steps}
use Rattle.std.proofs.lemmas.Result.{err_from_is_err_and}
use Rattle.std.proofs.Common.{◌++◌, ap, sym, subst, ◌∙◌, arith}
use Rattle.dir_ldif.specs.Reader.Unfolding.{to_come}
use Rattle.dir_ldif.specs.Remainder.{FailsAtOnce}
use Rattle.dir_ldif.proofs.BytesLemmas.{cut_at-text, cut_at-lacks}
use Rattle.dir_ldif.proofs.UnfolderLemmas.{piece_first, length-piece, front_more, over_same}
use Rattle.dir_ldif.proofs.reader.unfolder.Unfolder.push_chunk.Goals as goal

pub finish_line-requires-clause-going : goal.finish_line-requires-clause-going
finish_line-requires-clause-going c = c.loop-text.invariant.4

pub finish_line-requires-clause-line : goal.finish_line-requires-clause-line
finish_line-requires-clause-line c = (cut_at-text 10 c.loop-text.rest.now c.in-Some.text.now c.in-Some.after.now c.in-Some.ensures).1

pub loop-text-smaller : goal.loop-text-smaller
loop-text-smaller c = omega (arith, length-piece c.loop-text.rest.now c.in-Some.text.now c.in-Some.after.now c.in-Some.ensures)

pub loop-text-preserved : goal.loop-text-preserved
loop-text-preserved c =
    let shorter = length-piece c.loop-text.rest.now c.in-Some.text.now c.in-Some.after.now c.in-Some.ensures in (
      omega (arith, shorter),
      omega (arith, shorter),
      front_more c.args.self.now c.loop-text.self c.args.chunk.now c.loop-text.rest.now c.in-Some.text.now c.in-Some.after.now c.in-Some.ensures c.loop-text.invariant.2 (to_come c.finish_line.new.self) (rw c.in_default-2.is at c.in_ok-block.ensures.ok),
      λ text.
          let first = piece_first c.loop-text.rest.now c.in-Some.text.now c.in-Some.after.now c.in-Some.ensures text in
          c.loop-text.invariant.3 text ∙ ap (to_come c.loop-text.self) first ∙ (rw c.in_default-2.is at c.in_ok-block.ensures.ok) (c.in-Some.after.now ++ text),
      cc,
      λ h. c.finish_line.ensures.ignored (c.loop-text.invariant.5 h),
    )

pub returns-in-Some-2-clause-left : goal.returns-in-Some-2-clause-left
returns-in-Some-2-clause-left c = omega (arith, length-piece c.loop-text.rest.now c.in-Some.text.now c.in-Some.after.now c.in-Some.ensures)

pub returns-in-Some-2-clause-shorter : goal.returns-in-Some-2-clause-shorter
returns-in-Some-2-clause-shorter c = omega (arith, length-piece c.loop-text.rest.now c.in-Some.text.now c.in-Some.after.now c.in-Some.ensures)

pub returns-in-Some-2-clause-used : goal.returns-in-Some-2-clause-used
returns-in-Some-2-clause-used c =
    front_more c.args.self.now c.loop-text.self c.args.chunk.now c.loop-text.rest.now c.in-Some.text.now c.in-Some.after.now c.in-Some.ensures c.loop-text.invariant.2 _ (rw c.in-Some-2.is at c.in_ok-block.ensures.ok)

pub returns-in-Some-2-clause-ok : goal.returns-in-Some-2-clause-ok
returns-in-Some-2-clause-ok c =
    λ text.
    let first = piece_first c.loop-text.rest.now c.in-Some.text.now c.in-Some.after.now c.in-Some.ensures text in
    c.loop-text.invariant.3 text ∙ ap (to_come c.loop-text.self) first ∙ (rw c.in-Some-2.is at c.in_ok-block.ensures.ok) (c.in-Some.after.now ++ text)

pub returns-in_err-block-clause-err : goal.returns-in_err-block-clause-err
returns-in_err-block-clause-err c =
    let e = err_from_is_err_and c.from_residual.result c.from_residual.ensures.1 in
    rw (e.1, e.2) (
    λ text.
    let first = piece_first c.loop-text.rest.now c.in-Some.text.now c.in-Some.after.now c.in-Some.ensures text in
    subst (FailsAtOnce c.in_err-block.field-0.0) (sym (c.loop-text.invariant.3 text ∙ ap (to_come c.loop-text.self) first)) (c.in_err-block.ensures.err (c.in-Some.after.now ++ text))
    )

pub push_partial_line-requires-clause-going : goal.push_partial_line-requires-clause-going
push_partial_line-requires-clause-going c = c.loop-text.invariant.4

pub push_partial_line-requires-clause-given : goal.push_partial_line-requires-clause-given
push_partial_line-requires-clause-given c = cut_at-lacks 10 c.loop-text.rest.now c.in_default.ensures

pub returns-then-is_over-clause-ok : goal.returns-then-is_over-clause-ok
returns-then-is_over-clause-ok c =
    λ text.
    let first = piece_first c.loop-text.rest.now c.in-Some.text.now c.in-Some.after.now c.in-Some.ensures text in
    c.loop-text.invariant.3 text ∙ ap (to_come c.loop-text.self) first ∙ (rw c.in_default-2.is at c.in_ok-block.ensures.ok) (c.in-Some.after.now ++ text) ∙ over_same c.finish_line.new.self _ _ (cc)

pub returns-in_err-block-clause-ignored : goal.returns-in_err-block-clause-ignored
returns-in_err-block-clause-ignored c = λ h. c.finish_line.ensures.ignored (c.loop-text.invariant.5 h)

pub returns-in-Some-2-clause-ignored : goal.returns-in-Some-2-clause-ignored
returns-in-Some-2-clause-ignored c = λ h. c.finish_line.ensures.ignored (c.loop-text.invariant.5 h)

pub returns-then-is_over-clause-ignored : goal.returns-then-is_over-clause-ignored
returns-then-is_over-clause-ignored c = λ h. c.finish_line.ensures.ignored (c.loop-text.invariant.5 h)

pub returns-in_err-push_partial_line-clause-ignored : goal.returns-in_err-push_partial_line-clause-ignored
returns-in_err-push_partial_line-clause-ignored c = λ h. c.push_partial_line.ensures.ignored (c.loop-text.invariant.5 h)

pub returns-clause-ignored : goal.returns-clause-ignored
returns-clause-ignored c = λ h. c.push_partial_line.ensures.ignored (c.loop-text.invariant.5 h)

pub returns-in_err-block-clause-number : goal.returns-in_err-block-clause-number
returns-in_err-block-clause-number c = grind (arith, common_steps)

pub returns-in-Some-2-clause-number : goal.returns-in-Some-2-clause-number
returns-in-Some-2-clause-number c = grind (arith, common_steps)

pub returns-then-is_over-clause-number : goal.returns-then-is_over-clause-number
returns-then-is_over-clause-number c = grind (arith, common_steps)
