use Rattle.std.proofs.Common.{◌∙◌, ap, subst, rules, Err}
use Rattle.dir_ldif.specs.Reader.{source_of, turns_left}
use Rattle.dir_ldif.specs.Records.{records_of}
use Rattle.dir_tools.specs.ReadCalls.{GaveAtLeast}
use Rattle.dir_tools.proofs.CopyFaults.{blamed_read, finish_blamed}
use Rattle.dir_tools.proofs.CopyLemmas.{holds_nothing, if_both, if_ok, read_order, read_whole}
use Rattle.dir_tools.specs.CopyOf.{empty_copy}
use Rattle.dir_tools.specs.CompleteRecords.{CompleteRecordsLoad}
use Rattle.dir_tools.proofs.CompleteRecords.{from_start, taken_so}
use Rattle.dir_tools.proofs.ReadCalls.{long_text}
use Rattle.dir_tools.proofs.copy.read_copy.Goals as goal

pub returns-in-Ok-answer-clause-reads : goal.returns-in-Ok-answer-clause-reads
returns-in-Ok-answer-clause-reads g c =
    let empty = g.D.Directory.state c.args.empty in
    if_ok c.finish.result
    (λ d is bare. read_whole g.D.Directory.state c.args.schema.now empty.suffix (g.R.Source.left c.args.copy.now) _ c.new-loading.result c.take_records-answer.new.self (g.D.Directory.state d)
    c.in-Ok.ensures.answers c.in-Ok-answer.ensures.reads
    (holds_nothing g.D.Directory.state c.args.empty c.new-loading.result c.new-loading.ensures.directory c.new-loading.ensures.waiting bare) (λ m was. (is m was).0))
    c.finish.ensures.reads

pub returns-in-Ok-answer-clause-sound : goal.returns-in-Ok-answer-clause-sound
returns-in-Ok-answer-clause-sound g c =
    let empty = g.D.Directory.state c.args.empty in
    if_ok c.finish.result
    (λ d both bare named. read_order g.D.Directory.state c.args.schema.now empty.suffix c.new-loading.result c.take_records-answer.new.self (g.D.Directory.state d)
    c.in-Ok-answer.ensures.order
    (holds_nothing g.D.Directory.state c.args.empty c.new-loading.result c.new-loading.ensures.directory c.new-loading.ensures.waiting bare)
    (both.0 ∙ c.in-Ok-answer.ensures.suffix ∙ ap (λ x. (g.D.Directory.state x).suffix) c.new-loading.ensures.directory) named both.1)
    (if_both _ _ c.finish.result c.finish.ensures.suffix c.finish.ensures.reads)

pub returns-in-Ok-answer-clause-blamed : goal.returns-in-Ok-answer-clause-blamed
returns-in-Ok-answer-clause-blamed g c =
    finish_blamed g.D.Directory.state c.args.schema.now c.args.empty _ c.finish.result (g.R.Source.left c.args.copy.now) c.new-loading.result c.take_records-answer.new.self _ _
    c.in-Ok.ensures.answers c.in-Ok-answer.ensures.reads
    (holds_nothing g.D.Directory.state c.args.empty c.new-loading.result c.new-loading.ensures.directory c.new-loading.ensures.waiting)
    c.finish.ensures.fault c.finish.ensures.cause

pub returns-in-Err-answer-clause-blamed : goal.returns-in-Err-answer-clause-blamed
returns-in-Err-answer-clause-blamed g c =
    blamed_read g.D.Directory.state c.args.schema.now c.args.empty _ (g.R.Source.left c.args.copy.now) c.new-loading.result _ _ c.in-Err-answer.fault
    c.in-Ok.ensures.answers
    (holds_nothing g.D.Directory.state c.args.empty c.new-loading.result c.new-loading.ensures.directory c.new-loading.ensures.waiting)
    (λ is. long_text (g.R.Source.left c.args.copy.now) _ (turns_left c.in-Ok.records) c.in-Ok.ensures.turns
    (subst (λ s. GaveAtLeast (g.R.Source.left s.now) (g.R.Source.left (source_of c.take_records-answer.new.records).now) (turns_left c.in-Ok.records)) c.in-Ok.ensures.source.0
    (c.take_records-answer.ensures.turns (c.in-Err-answer.is ∙ ap Err is))))
    (search rules)

pub returns-in-Err-answer-clause-settled : goal.returns-in-Err-answer-clause-settled
returns-in-Err-answer-clause-settled g c is bare =
    let start = empty_copy (g.D.Directory.state c.args.empty).suffix in
    from_start (records_of c.args.schema.now) (λ s. g.R.Source.left s.now) (CompleteRecordsLoad c.args.schema.now start) (taken_so c.args.schema.now start) c.in-Ok.records c.take_records-answer.new.records _ _
    c.in-Ok.ensures.ahead.0 c.in-Ok.ensures.ahead.1 (ap (λ s. g.R.Source.left s.now) c.in-Ok.ensures.source.0) (search rules)
    (c.in-Err-answer.ensures.settled is start (holds_nothing g.D.Directory.state c.args.empty c.new-loading.result c.new-loading.ensures.directory c.new-loading.ensures.waiting bare))
