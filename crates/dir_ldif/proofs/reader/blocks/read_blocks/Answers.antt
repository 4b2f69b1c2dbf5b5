use Rattle.std.proofs.Common.{◌≡◌, ◌++◌, ℕ, List, [], false, map, sym, ap, ◌∙◌, rules, arith}
use Rattle.std.proofs.lemmas.Grind.{common_steps}
use Rattle.std.proofs.lemmas.Result.{err_from_is_err_and}
use Rattle.dir_ldif.specs.Blocks.{all_blocks, blocks_of}
use Rattle.dir_ldif.specs.LogicalLines.{lines_of}
use Rattle.dir_ldif.specs.Marks.{ignored}
use Rattle.dir_ldif.specs.Reader.Unfolding.{blocks_to_come, to_come}
use Rattle.dir_ldif.specs.Remainder.{blocks_in, remainder_from}
use Rattle.dir_ldif.proofs.ReadBlocks.{blocks_end_in}
use Rattle.dir_ldif.proofs.RemainderLemmas.{ends_at_once, remainder_is_blocks}
use Rattle.dir_ldif.proofs.reader.blocks.read_blocks.Goals as goal

pub loop-blocks-init : goal.loop-blocks-init
loop-blocks-init c =
    let text = c.args.text.now in
    let u = c.new-unfolder.result in
    let marks : u.marks ≡ ignored = c.new-unfolder.ensures.marks ∙ c.ignored.ensures in
    let blocks : (t : List ℕ) → blocks_to_come u t ≡ blocks_of t = λ t. ap blocks_in (c.new-unfolder.ensures.text t) ∙ ap (λ m. blocks_in (remainder_from m false [] (lines_of t))) c.ignored.ensures ∙ remainder_is_blocks false [] (lines_of t) in
    (search rules, search rules, marks, λ more. rw c.new-blocks.ensures.items (sym (blocks (text ++ more))), search rules)

pub returns-in_err-block-clause-err : goal.returns-in_err-block-clause-err
returns-in_err-block-clause-err c =
    let e = err_from_is_err_and c.from_residual.result c.from_residual.ensures.1 in
    rw (e.1, e.2) (
    blocks_end_in c.in_err-block.field-0.0 c.args.text.now _ _ (c.loop-blocks.invariant.3 []) (ends_at_once c.in_err-block.field-0.0 _ (c.in_err-block.ensures.err []))
    )

pub returns-in_err-block-2-clause-err : goal.returns-in_err-block-2-clause-err
returns-in_err-block-2-clause-err c =
    let e = err_from_is_err_and c.from_residual-in_err-block-2.result c.from_residual-in_err-block-2.ensures.1 in
    let found = map (λ b. b.items) c.loop-blocks.blocks.items in
    let u = c.push_chunk.new.self in
    let taken : (text : List ℕ) → to_come c.loop-blocks.unfolder (c.loop-blocks.rest.now ++ text) ≡ to_come u text = rw c.in_default.is at c.in_ok-block.ensures.ok in
    rw (e.1, e.2) (
    blocks_end_in c.in_err-block-2.field-0.0 c.args.text.now found (blocks_to_come u []) (c.loop-blocks.invariant.3 [] ∙ ap (λ r. all_blocks found ++ blocks_in r) (taken [])) (ends_at_once c.in_err-block-2.field-0.0 _ c.in_err-block-2.ensures.err)
    )

pub loop-blocks-preserved : goal.loop-blocks-preserved
loop-blocks-preserved c = grind (arith, common_steps)

pub returns-clause-ok : goal.returns-clause-ok
returns-clause-ok c = grind (arith, common_steps)
