use Rattle.std.proofs.Common.{ℕ, List, subst, ◌∙◌}
use Rattle.std.specs.Io.KnownBytes.{Appends}
use Rattle.dir_conf.specs.Flat.{flat_parts}
use Rattle.dir_files.proofs.ConfCalls.{unwritten, writes}
use Rattle.dir_files.proofs.slapconf.write_flat.Goals as goal

pub returns-clause-calls : goal.returns-clause-calls
returns-clause-calls g c =
    writes (g.F.FileSystem.disk c.args.files.now) (g.F.FileSystem.disk c.create.new.self) (g.F.FileSystem.disk c.finish.new.files) c.args.path.now c.args.mode (g.F.Draft.Sink.taken c.in-Ok-create.draft) (g.F.Draft.Sink.taken c.write_flushed.new.sink)
    c.as_slice-2.result.now (flat_parts c.args.flat.now) c.finish.result
    c.in-Ok-create.ensures.told c.in-Ok-create.ensures.empty
    (subst (λ (text : List ℕ). Appends (g.F.Draft.Sink.taken c.in-Ok-create.draft) (g.F.Draft.Sink.taken c.write_flushed.new.sink) text) c.as_slice.ensures.value c.in-Ok-write_flushed.ensures.ok) (c.as_slice-2.ensures.value ∙ c.in-Ok.ensures) c.finish.ensures.calls

pub returns-in_default-write_flushed-clause-calls : goal.returns-in_default-write_flushed-clause-calls
returns-in_default-write_flushed-clause-calls g c =
    unwritten (g.F.FileSystem.disk c.args.files.now) (g.F.FileSystem.disk c.create.new.self) (g.F.FileSystem.disk c.discard.new.self) c.args.path.now c.args.mode (flat_parts c.args.flat.now) c.in-Ok-create.ensures.told c.discard.ensures.told
