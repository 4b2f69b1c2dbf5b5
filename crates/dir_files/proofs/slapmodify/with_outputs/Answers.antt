use Rattle.std.proofs.Common.{Err, Ok, Result, ap, arith, inl, inr, refl, ◌≤◌}
use Rattle.dir_tools.specs.declared.fault.ToolFault.{ToolFault}
use Rattle.dir_tools.specs.declared.run.Summary.{Summary}
use Rattle.dir_tools.specs.Headline.{RunTerms}
use Rattle.dir_tools.specs.RunAnswers.{Sources, sources}
use Rattle.dir_files.specs.Runs.{terms_of}
use Rattle.dir_files.proofs.CallLemmas.{ends_in_fault, no_draft, runs_over, writes_outputs}
use Rattle.dir_files.proofs.FailureLemmas.{by_device, draft_back, later}
use Rattle.dir_files.proofs.slapmodify.with_outputs.Goals as goal

pub returns-in-Err-create-clause-calls : goal.returns-in-Err-create-clause-calls
returns-in-Err-create-clause-calls g c =
    no_draft c.args.paths.now c.args.mode (terms_of c.args.schema.now c.args.words.now) (sources (g.R.Source.left c.args.copy.now) (g.R2.Source.left c.args.changes.now))
    (Err c.not_created-in-Err-create.result)
    (g.F.FileSystem.disk c.args.files.now) (g.F.FileSystem.disk c.create.new.self) (g.F.FileSystem.disk c.create-2.new.self) (g.F.FileSystem.disk c.discard.new.self)
    c.in-Err-create.why c.in-Ok.ensures.told c.in-Err-create.ensures.told c.discard.ensures.told c.not_created-in-Err-create.ensures

pub returns-in-Ok-answer-clause-calls : goal.returns-in-Ok-answer-clause-calls
returns-in-Ok-answer-clause-calls g c =
    let q : RunTerms = terms_of c.args.schema.now c.args.words.now in
    let known : Sources = sources (g.R.Source.left c.args.copy.now) (g.R2.Source.left c.args.changes.now) in
    let answer : Result Summary ToolFault = Ok c.in-Ok-answer.summary in
    let h = c.in-Ok-answer.ensures.headline in
    writes_outputs c.args.paths.now c.args.mode q known c.sync_outputs.result answer
    (g.F.Draft.Sink.taken c.in-Ok.undo) (g.F.Draft.Sink.taken c.with_files-answer.new.undo) (g.F.Draft.Sink.taken c.in-Ok-create.out) (g.F.Draft.Sink.taken c.with_files-answer.new.out)
    c.as_slice.result.now
    (g.F.FileSystem.disk c.args.files.now) (g.F.FileSystem.disk c.create.new.self) (g.F.FileSystem.disk c.create-2.new.self) (g.F.FileSystem.disk c.sync_outputs.new.files)
    c.in-Ok.ensures.told c.in-Ok-create.ensures.told c.in-Ok.ensures.empty c.in-Ok-create.ensures.empty
    (runs_over q known answer h.0 _ _ _ _ c.as_slice.result.now h.1 h.2 h.3 c.new-report.ensures c.as_slice.ensures) c.sync_outputs.ensures.calls

pub returns-clause-calls : goal.returns-clause-calls
returns-clause-calls g c =
    let q : RunTerms = terms_of c.args.schema.now c.args.words.now in
    let known : Sources = sources (g.R.Source.left c.args.copy.now) (g.R2.Source.left c.args.changes.now) in
    let answer : Result Summary ToolFault = Err c.in-Err-answer.fault in
    let h = c.in-Err-answer.ensures.headline in
    writes_outputs c.args.paths.now c.args.mode q known (Err c.modify_fault.result) answer
    (g.F.Draft.Sink.taken c.in-Ok.undo) (g.F.Draft.Sink.taken c.with_files-answer.new.undo) (g.F.Draft.Sink.taken c.in-Ok-create.out) (g.F.Draft.Sink.taken c.with_files-answer.new.out)
    c.with_files-answer.new.report.bytes.items
    (g.F.FileSystem.disk c.args.files.now) (g.F.FileSystem.disk c.create.new.self) (g.F.FileSystem.disk c.create-2.new.self) (g.F.FileSystem.disk c.discard-in-Err-answer-2.new.self)
    c.in-Ok.ensures.told c.in-Ok-create.ensures.told c.in-Ok.ensures.empty c.in-Ok-create.ensures.empty
    (runs_over q known answer h.0 _ _ _ _ c.with_files-answer.new.report.bytes.items h.1 h.2 h.3 c.new-report.ensures refl)
    (ends_in_fault c.args.words.now.options.last c.args.paths.now (g.F.Draft.Sink.taken c.with_files-answer.new.undo) (g.F.Draft.Sink.taken c.with_files-answer.new.out) c.with_files-answer.new.report.bytes.items
    c.in-Err-answer.fault c.modify_fault.result (g.F.FileSystem.disk c.create-2.new.self) (g.F.FileSystem.disk c.discard-in-Err-answer.new.self)
    (g.F.FileSystem.disk c.discard-in-Err-answer-2.new.self) c.discard-in-Err-answer.ensures.told c.discard-in-Err-answer-2.ensures.told c.modify_fault.ensures.told)

pub returns-clause-failed : goal.returns-clause-failed
returns-clause-failed g c =
    let q : RunTerms = terms_of c.args.schema.now c.args.words.now in
    let known : Sources = sources (g.R.Source.left c.args.copy.now) (g.R2.Source.left c.args.changes.now) in
    let h = c.in-Err-answer.ensures.headline in
    let at_undo = c.in-Ok.ensures.count.counts in
    let at_out = c.in-Ok-create.ensures.count.counts in
    let out_back = c.discard-in-Err-answer.ensures.count in
    let undo_back = c.discard-in-Err-answer-2.ensures.count in
    let before = g.F.FileSystem.failures c.args.files.now in
    let drafted = g.F.FileSystem.failures c.create-2.new.self in
    let between = g.F.FileSystem.failures c.discard-in-Err-answer.new.self in
    let after = g.F.FileSystem.failures c.discard-in-Err-answer-2.new.self in
    let same : before ≤ drafted = omega (arith, at_undo, at_out) in
    let later_same : before ≤ between = omega (arith, same, out_back.grows) in record {
      grows = omega (arith, later_same, undo_back.grows);
      failed = λ tells.
          by_device _ c.args.words.now.options.last q known h.0 c.in-Err-answer.fault c.modify_fault.result c.modify_fault.ensures.told h.2 tells
          (λ is. inr (inl (c.in-Err-answer.ensures.read_copy (ap Err is))))
          (λ is. inr (inr (c.in-Err-answer.ensures.read_changes (ap Err is))))
          (λ is. inl (draft_back before between after _ _ _ (g.met.F.FileSystem.never_stalls _) later_same c.in-Ok.ensures.fresh undo_back (c.in-Err-answer.ensures.write_undo (ap Err is))))
          (λ is. inl (later _ _ _ (draft_back before drafted between _ _ _ (g.met.F.FileSystem.never_stalls _) same c.in-Ok-create.ensures.fresh out_back (c.in-Err-answer.ensures.write_out (ap Err is))) undo_back.grows));
    }
