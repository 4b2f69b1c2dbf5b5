use Rattle.dir_files.proofs.EndLemmas.{both_synced, out_not_synced, undo_not_synced}
use Rattle.dir_files.proofs.slapmodify.sync_outputs.Goals as goal

pub returns-in-Err-clause-calls : goal.returns-in-Err-clause-calls
returns-in-Err-clause-calls g c =
    undo_not_synced c.args.paths.now (g.F.Draft.Sink.taken c.args.undo) (g.F.Draft.Sink.taken c.args.out) c.args.report.now c.args.summary
    (g.F.FileSystem.disk c.args.files.now) (g.F.FileSystem.disk c.sync.new.self) (g.F.FileSystem.disk c.discard.new.self) (g.F.FileSystem.disk c.discard-in-Err.new.self)
    c.in-Err.why c.not_written.result c.in-Err.ensures.told c.discard.ensures.told c.discard-in-Err.ensures.told c.not_written.ensures

pub returns-in-Err-sync-clause-calls : goal.returns-in-Err-sync-clause-calls
returns-in-Err-sync-clause-calls g c =
    out_not_synced c.args.paths.now (g.F.Draft.Sink.taken c.args.undo) (g.F.Draft.Sink.taken c.args.out) c.args.report.now c.args.summary
    (g.F.FileSystem.disk c.args.files.now) (g.F.FileSystem.disk c.sync.new.self) (g.F.FileSystem.disk c.sync-2.new.self) (g.F.FileSystem.disk c.discard-in-Err-sync.new.self)
    (g.F.FileSystem.disk c.discard-in-Err-sync-2.new.self) c.in-Err-sync.why c.not_written-in-Err-sync.result
    c.in_default.ensures.told c.in-Err-sync.ensures.told c.discard-in-Err-sync.ensures.told c.discard-in-Err-sync-2.ensures.told c.not_written-in-Err-sync.ensures

pub returns-clause-calls : goal.returns-clause-calls
returns-clause-calls g c =
    both_synced c.args.paths.now (g.F.Draft.Sink.taken c.args.undo) (g.F.Draft.Sink.taken c.args.out) c.args.report.now c.args.summary c.publish_outputs.result
    (g.F.FileSystem.disk c.args.files.now) (g.F.FileSystem.disk c.sync.new.self) (g.F.FileSystem.disk c.sync-2.new.self) (g.F.FileSystem.disk c.publish_outputs.new.files)
    c.in_default.ensures.told c.in_default-sync.ensures.told c.publish_outputs.ensures.calls
