use Rattle.dir_files.proofs.OneOutputCalls.{finished, not_published, not_reported, not_synced, of_publishing, of_reporting}
use Rattle.dir_files.proofs.one_output.finish.Goals as goal

pub returns-in-Err-clause-calls : goal.returns-in-Err-clause-calls
returns-in-Err-clause-calls g c =
    not_synced c.args.path.now (g.F.Draft.Sink.taken c.args.draft) c.args.report.now c.args.unwritten c.args.answer
    (g.F.FileSystem.disk c.args.files.now) (g.F.FileSystem.disk c.sync.new.self) (g.F.FileSystem.disk c.discard.new.self)
    c.in-Err.why c.not_published.result c.in-Err.ensures.told c.discard.ensures.told c.not_published.ensures

pub returns-in-Err-clause-faults : goal.returns-in-Err-clause-faults
returns-in-Err-clause-faults g c = of_publishing c.args.path.now c.args.unwritten c.in-Err.why c.not_published.result c.not_published.ensures

pub returns-in-Err-publish-clause-calls : goal.returns-in-Err-publish-clause-calls
returns-in-Err-publish-clause-calls g c =
    not_published c.args.path.now (g.F.Draft.Sink.taken c.args.draft) c.args.report.now c.args.unwritten c.args.answer
    (g.F.FileSystem.disk c.args.files.now) (g.F.FileSystem.disk c.sync.new.self) (g.F.FileSystem.disk c.publish.new.self)
    c.in-Err-publish.why c.not_published-in-Err-publish.result c.in_default.ensures.told c.in-Err-publish.ensures.told c.not_published-in-Err-publish.ensures

pub returns-in-Err-publish-clause-faults : goal.returns-in-Err-publish-clause-faults
returns-in-Err-publish-clause-faults g c = of_publishing c.args.path.now c.args.unwritten c.in-Err-publish.why c.not_published-in-Err-publish.result c.not_published-in-Err-publish.ensures

pub returns-in-Err-report-clause-calls : goal.returns-in-Err-report-clause-calls
returns-in-Err-report-clause-calls g c =
    not_reported c.args.path.now (g.F.Draft.Sink.taken c.args.draft) c.args.report.now c.args.unwritten c.args.answer
    (g.F.FileSystem.disk c.args.files.now) (g.F.FileSystem.disk c.sync.new.self) (g.F.FileSystem.disk c.publish.new.self) (g.F.FileSystem.disk c.report.new.self)
    (g.F.FileSystem.disk c.withdraw.new.self) c.in-Err-report.why c.not_reported.result c.in_default.ensures.told c.in_default-publish.ensures.told c.in-Err-report.ensures.told c.withdraw.ensures.told c.not_reported.ensures

pub returns-in-Err-report-clause-faults : goal.returns-in-Err-report-clause-faults
returns-in-Err-report-clause-faults g c = of_reporting c.args.path.now c.args.unwritten c.in-Err-report.why c.not_reported.result c.not_reported.ensures

pub returns-clause-calls : goal.returns-clause-calls
returns-clause-calls g c =
    finished c.args.path.now (g.F.Draft.Sink.taken c.args.draft) c.args.report.now c.args.unwritten c.args.answer
    (g.F.FileSystem.disk c.args.files.now) (g.F.FileSystem.disk c.sync.new.self) (g.F.FileSystem.disk c.publish.new.self) (g.F.FileSystem.disk c.report.new.self)
    c.in_default.ensures.told c.in_default-publish.ensures.told c.in_default-report.ensures.told
