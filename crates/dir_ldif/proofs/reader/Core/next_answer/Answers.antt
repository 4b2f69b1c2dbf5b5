use Rattle.std.proofs.lemmas.Result.{err_from_is_err_and}
use Rattle.std.proofs.Common.{◌≡◌, true, ap, ◌∙◌, rules}
use Rattle.dir_ldif.specs.Bytes.{is_empty}
use Rattle.dir_ldif.specs.Records.{found_of}
use Rattle.dir_ldif.proofs.AnswerLemmas.{next_counted, next_faults, next_keeps, next_none}
use Rattle.dir_ldif.proofs.LongLineSoon.{answer_used, ends_soon}
use Rattle.dir_ldif.proofs.reader.Core.next_answer.Goals as goal

pub returns-in_err-block-clause-err : goal.returns-in_err-block-clause-err
returns-in_err-block-clause-err g c =
    let e = err_from_is_err_and c.from_residual.result c.from_residual.ensures.1 in
    let why = c.in_err-block.ensures.err in
    rw (e.1, e.2) (
    next_faults c.in_err-block.field-0.0 c.args.schema.now c.args.self.now c.next_block.new.self _ _ why.0 _ _ c.requires why.1 why.2
    )

pub returns-clause-used : goal.returns-clause-used
returns-clause-used g c =
    let block = c.in_ok-block.block.items in
    let rows = c.args.schema.now in
    let same : c.as_slice.result.now ≡ block = c.as_slice.ensures.value in
    let found = c.in_ok-answer.ensures.ok ∙ ap (found_of rows) same in
    λ reading. answer_used rows c.args.self.now c.next_block.new.self block c.in_ok-answer.answer _ _ found (c.in_ok-block.ensures.ok.3 reading).1 (c.in_ok-block.ensures.used reading)

pub returns-in_err-block-clause-soon : goal.returns-in_err-block-clause-soon
returns-in_err-block-clause-soon g c =
    let e = err_from_is_err_and c.from_residual.result c.from_residual.ensures.1 in
    rw (e.1, e.2) (
    ends_soon c.in_err-block.field-0.0 c.args.schema.now c.args.self.now _ _ c.in_err-block.ensures.soon
    )

pub returns-then-is_empty-clause-counted : goal.returns-then-is_empty-clause-counted
returns-then-is_empty-clause-counted g c =
    let ok = c.in_ok-block.ensures.ok in
    let old = c.args.self.now in
    let new = c.next_block.new.self in
    let block = c.in_ok-block.block.items in
    let none : is_empty block ≡ true = search rules in
    let end = (next_none c.args.schema.now old new block _ _ ok.0 _ c.requires ok.1 ok.2 (λ r. (ok.3 r).1) none).1 in
    next_counted new _ (g.S.Source.left c.next_block.new.source) end (next_keeps old new block (g.S.Source.left c.args.source.now) (g.S.Source.left c.next_block.new.source) ok.0 c.requires ok.1 ok.2)
