use Rattle.std.proofs.Common.{◌≡◌, ◌∷◌, ◌++◌, ℕ, List, [], false, sym, ap, ◌∙◌, rules}
use Rattle.dir_ldif.specs.Bytes.{is_empty}
use Rattle.dir_ldif.specs.Blocks.{block_then, blocks_of}
use Rattle.dir_ldif.specs.LogicalLines.{lines_of}
use Rattle.dir_ldif.specs.Marks.{ignored}
use Rattle.dir_ldif.specs.Reader.Unfolding.{blocks_to_come, to_come}
use Rattle.dir_ldif.specs.Records.{all_found, answers_on, found_of, records_of}
use Rattle.dir_ldif.specs.Remainder.{blocks_in, remainder_from}
use Rattle.std.proofs.lemmas.Result.{err_from_is_err_and}
use Rattle.dir_ldif.proofs.RecordsLemmas.{ends_in, found_last}
use Rattle.dir_ldif.proofs.RemainderLemmas.{blocks_in-then, ends_at_once, remainder_is_blocks}
use Rattle.dir_ldif.proofs.reader.read_all.Goals as goal

pub returns-in_err-block-clause-err : goal.returns-in_err-block-clause-err
returns-in_err-block-clause-err c =
    let e = err_from_is_err_and c.from_residual.result c.from_residual.ensures.1 in
    rw (e.1, e.2) (
    ends_in c.in_err-block.field-0.0 c.args.schema.now c.args.text.now c.loop-answers.answers.items _ (c.loop-answers.invariant.5 []) (ends_at_once c.in_err-block.field-0.0 _ (c.in_err-block.ensures.err []))
    )

pub loop-answers-init : goal.loop-answers-init
loop-answers-init c =
    let rows = c.args.schema.now in
    let text = c.args.text.now in
    let u = c.new-unfolder.result in
    let marks : u.marks ≡ ignored = c.new-unfolder.ensures.marks ∙ c.ignored.ensures in
    let blocks : (t : List ℕ) → blocks_to_come u t ≡ blocks_of t = λ t. ap blocks_in (c.new-unfolder.ensures.text t) ∙ ap (λ m. blocks_in (remainder_from m false [] (lines_of t))) c.ignored.ensures ∙ remainder_is_blocks false [] (lines_of t) in
    (search rules, search rules, marks, search rules, search rules, λ more. rw c.new-answers.ensures.items (ap (answers_on rows) (sym (blocks (text ++ more)))))

pub returns-clause-ok : goal.returns-clause-ok
returns-clause-ok c =
    let rows = c.args.schema.now in
    let found = c.loop-answers.answers.items in
    let u = c.push_chunk.new.self in
    let block = c.in_ok-block-2.block.items in
    let taken : (text : List ℕ) → to_come c.loop-answers.unfolder (c.loop-answers.rest.now ++ text) ≡ to_come u text = rw c.in_default.is at c.in_ok-block.ensures.ok in
    let so_far : records_of rows (c.args.text.now ++ []) ≡ all_found found ++ answers_on rows (blocks_to_come u []) = c.loop-answers.invariant.5 [] ∙ ap (λ r. all_found found ++ answers_on rows (blocks_in r)) (taken []) in
    let last : blocks_to_come u [] ≡ block_then block [] = ap blocks_in c.in_ok-block-2.ensures.ok ∙ blocks_in-then block _ in
    let some : is_empty block ≡ false = search rules in
    found_last rows c.args.text.now found c.push_answer-2.new.answers.items block (blocks_to_come u []) so_far last some (c.in_ok-push_answer-2.ensures.ok ∙ ap (λ b. found ++ found_of rows b ∷ []) c.as_slice-2.ensures.value)
