use Rattle.std.proofs.lemmas.Result.{err_from_is_err_and}
use Rattle.std.proofs.Common.{◌≡◌, ◌++◌, false, ap, ◌∙◌}
use Rattle.dir_ldif.specs.Bytes.{begins_with, without_last}
use Rattle.dir_ldif.proofs.LogicalLineLemmas.{FailsAtOnce-apart, TakesLine-continued}
use Rattle.dir_ldif.proofs.UnfolderLemmas.{over_apart}
use Rattle.dir_ldif.proofs.reader.unfolder.Unfolder.unfold.Goals as goal

pub returns-then-begins_with_space-clause-takes : goal.returns-then-begins_with_space-clause-takes
returns-then-begins_with_space-clause-takes c =
    let j = c.args.self.now in
    let line = c.args.front.items ++ c.args.back.now in
    let shown = c.parts_without_cr.result.0.now ++ c.parts_without_cr.result.1.now in
    let same : shown ≡ without_last 13 line = c.parts_without_cr.ensures.text ∙ ap (λ t. without_last 13 (t ++ c.args.back.now)) c.as_slice.ensures.value in
    TakesLine-continued j.marks j.begun j.block.items j.last c.in-Some.last c.args.number (without_last 13 line) shown c.continue_line.result c.continue_line.new.self (cc) same (c.continue_line.ensures.takes c.args.number)

pub returns-in_err-push_to_block-clause-takes : goal.returns-in_err-push_to_block-clause-takes
returns-in_err-push_to_block-clause-takes c =
    let e = err_from_is_err_and c.from_residual.result c.from_residual.ensures.1 in
    let j = c.args.self.now in
    let line = c.args.front.items ++ c.args.back.now in
    let first : begins_with 32 c.parts_without_cr.result.0.now ≡ begins_with 32 (without_last 13 line) = c.parts_without_cr.ensures.first ∙ ap (λ t. begins_with 32 (without_last 13 (t ++ c.args.back.now))) c.as_slice.ensures.value in
    let apart : begins_with 32 (without_last 13 line) ≡ false = cc in
    rw (e.1, e.2) (
    λ more. FailsAtOnce-apart c.in_err-push_to_block.field-0.0 j.marks j.begun j.block.items j.last c.in-Some.last c.args.number (without_last 13 line) more (cc) apart c.in_err-push_to_block.ensures.err
    )

pub returns-then-is_over-clause-takes : goal.returns-then-is_over-clause-takes
returns-then-is_over-clause-takes c =
    let j = c.args.self.now in
    let line = c.args.front.items ++ c.args.back.now in
    let first : begins_with 32 c.parts_without_cr.result.0.now ≡ begins_with 32 (without_last 13 line) = c.parts_without_cr.ensures.first ∙ ap (λ t. begins_with 32 (without_last 13 (t ++ c.args.back.now))) c.as_slice.ensures.value in
    let apart : begins_with 32 (without_last 13 line) ≡ false = cc in
    over_apart j.marks j.begun j.block.items j.last c.in-Some.last c.args.number (without_last 13 line) c.push_to_block.new.self (cc) apart c.in_ok-push_to_block.ensures.ok (cc)
