use Rattle.std.proofs.Common.{◌≡◌, ◌+◌, ◌++◌, true, false, nat_lt, length, length-append, sym, ap, subst, ◌∙◌, arith}
use Rattle.std.proofs.lemmas.Result.{err_from_is_err_and, on_ok_weaker, IfErr-weaker}
use Rattle.dir_ldif.specs.Bytes.{begins_with, without_last}
use Rattle.dir_ldif.specs.Remainder.{FailsAtOnce}
use Rattle.dir_ldif.proofs.BytesLemmas.{begins_with-append}
use Rattle.dir_ldif.proofs.LogicalLineLemmas.{some_of_begins}
use Rattle.dir_ldif.proofs.PartialLines.{apart_Ends, closed_before, grown_Ends, grown_to_come}
use Rattle.dir_ldif.proofs.UnfolderLemmas.{over_same}
use Rattle.dir_ldif.proofs.reader.unfolder.Unfolder.push_partial_after.Goals as goal

pub returns-then-begins_with_space-clause-ok : goal.returns-then-begins_with_space-clause-ok
returns-then-begins_with_space-clause-ok c =
    let j = c.args.self.now in
    let line = c.args.front.items ++ c.args.back.now in
    let begin = c.parts_without_cr.result.0.now in
    let end = c.parts_without_cr.result.1.now in
    let same : begin ++ end ≡ without_last 13 line = c.parts_without_cr.ensures.text ∙ ap (λ t. without_last 13 (t ++ c.args.back.now)) c.as_slice.ensures.value in
    let first : begins_with 32 begin ≡ true = sym c.begins_with_space.ensures ∙ c.if-begins_with_space.true in
    let space : begins_with 32 (begin ++ end) ≡ true = begins_with-append 32 begin end (some_of_begins 32 begin first) ∙ first in
    let shown : length (begin ++ end) ≡ length begin + length end = length-append begin end in
    let all : length line ≡ c.len.result + length c.args.back.now = omega (arith, length-append c.args.front.items c.args.back.now, c.len.ensures, c.args.front.ok.0) in
    let has_cr = ap (λ n. nat_lt n (c.len.result + length c.args.back.now)) (sym shown) ∙ ap (λ n. nat_lt (length (begin ++ end)) n) (sym all) in
    on_ok_weaker c.continue_partly.result (λ h. grown_to_come j.marks j.begun j.block.items c.args.last j.number line (begin ++ end) _ c.continue_partly.new.self c.requires.continuable c.requires.line same space has_cr c.continue_partly.ensures.block.2 c.continue_partly.ensures.block.0 (ap (λ v. v.items) c.continue_partly.ensures.block.1) c.continue_partly.ensures.number h.0 h.1) c.continue_partly.ensures.ok

pub returns-then-begins_with_space-clause-err : goal.returns-then-begins_with_space-clause-err
returns-then-begins_with_space-clause-err c =
    let j = c.args.self.now in
    let line = c.args.front.items ++ c.args.back.now in
    let shown = c.parts_without_cr.result.0.now ++ c.parts_without_cr.result.1.now in
    let same : shown ≡ without_last 13 line = c.parts_without_cr.ensures.text ∙ ap (λ t. without_last 13 (t ++ c.args.back.now)) c.as_slice.ensures.value in
    IfErr-weaker c.continue_partly.result _ _ (λ fault h. grown_Ends fault j.marks j.begun j.block.items c.args.last j.number line shown c.requires.line c.requires.some same h) c.continue_partly.ensures.err

pub returns-clause-ok : goal.returns-clause-ok
returns-clause-ok c =
    let j = c.args.self.now in
    let k = c.push_to_block.new.self in
    let line = c.args.front.items ++ c.args.back.now in
    let first : begins_with 32 c.parts_without_cr.result.0.now ≡ begins_with 32 (without_last 13 line) = c.parts_without_cr.ensures.first ∙ ap (λ t. begins_with 32 (without_last 13 (t ++ c.args.back.now))) c.as_slice.ensures.value in
    let apart : begins_with 32 (without_last 13 line) ≡ false = cc in
    on_ok_weaker c.push_partial_alone.result (λ h text. closed_before j.marks k.marks j.begun k.begun j.block.items k.block.items c.args.last j.number k.number line c.requires.line c.requires.some apart c.in_ok-push_to_block.ensures.ok c.push_to_block.ensures.number text ∙ h text) c.push_partial_alone.ensures.ok

pub returns-clause-err : goal.returns-clause-err
returns-clause-err c =
    let j = c.args.self.now in
    let k = c.push_to_block.new.self in
    let line = c.args.front.items ++ c.args.back.now in
    let first : begins_with 32 c.parts_without_cr.result.0.now ≡ begins_with 32 (without_last 13 line) = c.parts_without_cr.ensures.first ∙ ap (λ t. begins_with 32 (without_last 13 (t ++ c.args.back.now))) c.as_slice.ensures.value in
    let apart : begins_with 32 (without_last 13 line) ≡ false = cc in
    IfErr-weaker c.push_partial_alone.result _ _ (λ fault h text. subst (FailsAtOnce fault) (sym (closed_before j.marks k.marks j.begun k.begun j.block.items k.block.items c.args.last j.number k.number line c.requires.line c.requires.some apart c.in_ok-push_to_block.ensures.ok c.push_to_block.ensures.number text)) (h text)) c.push_partial_alone.ensures.err

pub returns-in_err-push_to_block-clause-err : goal.returns-in_err-push_to_block-clause-err
returns-in_err-push_to_block-clause-err c =
    let e = err_from_is_err_and c.from_residual.result c.from_residual.ensures.1 in
    let j = c.args.self.now in
    let line = c.args.front.items ++ c.args.back.now in
    let first : begins_with 32 c.parts_without_cr.result.0.now ≡ begins_with 32 (without_last 13 line) = c.parts_without_cr.ensures.first ∙ ap (λ t. begins_with 32 (without_last 13 (t ++ c.args.back.now))) c.as_slice.ensures.value in
    let apart : begins_with 32 (without_last 13 line) ≡ false = cc in
    rw (e.1, e.2) (
    apart_Ends c.in_err-push_to_block.field-0.0 j.marks j.begun j.block.items c.args.last j.number line c.requires.line c.requires.some apart c.in_err-push_to_block.ensures.err
    )

pub returns-then-is_over-clause-ok : goal.returns-then-is_over-clause-ok
returns-then-is_over-clause-ok c =
    let j = c.args.self.now in
    let k = c.push_to_block.new.self in
    let line = c.args.front.items ++ c.args.back.now in
    let first : begins_with 32 c.parts_without_cr.result.0.now ≡ begins_with 32 (without_last 13 line) = c.parts_without_cr.ensures.first ∙ ap (λ t. begins_with 32 (without_last 13 (t ++ c.args.back.now))) c.as_slice.ensures.value in
    let apart : begins_with 32 (without_last 13 line) ≡ false = cc in
    λ text. closed_before j.marks k.marks j.begun k.begun j.block.items k.block.items c.args.last j.number k.number line c.requires.line c.requires.some apart c.in_ok-push_to_block.ensures.ok c.push_to_block.ensures.number text ∙ over_same k _ _ (cc)
