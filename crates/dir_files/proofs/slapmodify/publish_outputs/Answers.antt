use Rattle.dir_files.proofs.EndLemmas.{all_done, no_out, no_report, no_undo}
use Rattle.dir_files.proofs.slapmodify.publish_outputs.Goals as goal

pub returns-in-Err-clause-calls : goal.returns-in-Err-clause-calls
returns-in-Err-clause-calls g c =
    no_undo c.args.paths.now (g.F.Draft.Sink.taken c.args.undo) (g.F.Draft.Sink.taken c.args.out) c.args.report.now c.args.summary
    (g.F.FileSystem.disk c.args.files.now) (g.F.FileSystem.disk c.publish.new.self) (g.F.FileSystem.disk c.discard.new.self)
    c.in-Err.why c.not_written.result c.in-Err.ensures.told c.discard.ensures.told c.not_written.ensures

pub returns-in-Err-publish-clause-calls : goal.returns-in-Err-publish-clause-calls
returns-in-Err-publish-clause-calls g c =
    no_out c.args.paths.now (g.F.Draft.Sink.taken c.args.undo) (g.F.Draft.Sink.taken c.args.out) c.args.report.now c.args.summary
    (g.F.FileSystem.disk c.args.files.now) (g.F.FileSystem.disk c.publish.new.self) (g.F.FileSystem.disk c.publish-2.new.self) (g.F.FileSystem.disk c.withdraw.new.self)
    c.in-Err-publish.why c.not_written-in-Err-publish.result c.in_default.ensures.told c.in-Err-publish.ensures.told c.withdraw.ensures.told c.not_written-in-Err-publish.ensures

pub returns-in-Err-report-clause-calls : goal.returns-in-Err-report-clause-calls
returns-in-Err-report-clause-calls g c =
    no_report c.args.paths.now (g.F.Draft.Sink.taken c.args.undo) (g.F.Draft.Sink.taken c.args.out) c.args.report.now c.args.summary
    (g.F.FileSystem.disk c.args.files.now) (g.F.FileSystem.disk c.publish.new.self) (g.F.FileSystem.disk c.publish-2.new.self) (g.F.FileSystem.disk c.report.new.self)
    (g.F.FileSystem.disk c.withdraw-in-Err-report.new.self) (g.F.FileSystem.disk c.withdraw-in-Err-report-2.new.self) c.in-Err-report.why c.not_reported.result
    c.in_default.ensures.told c.in_default-publish.ensures.told c.in-Err-report.ensures.told c.withdraw-in-Err-report.ensures.told c.withdraw-in-Err-report-2.ensures.told c.not_reported.ensures

pub returns-clause-calls : goal.returns-clause-calls
returns-clause-calls g c =
    all_done c.args.paths.now (g.F.Draft.Sink.taken c.args.undo) (g.F.Draft.Sink.taken c.args.out) c.args.report.now c.args.summary
    (g.F.FileSystem.disk c.args.files.now) (g.F.FileSystem.disk c.publish.new.self) (g.F.FileSystem.disk c.publish-2.new.self) (g.F.FileSystem.disk c.report.new.self)
    c.in_default.ensures.told c.in_default-publish.ensures.told c.in_default-report.ensures.told
