use Rattle.std.proofs.Common.{ap, sym}
use Rattle.std.specs.Option.{option_copied}
use Rattle.dir_files.specs.Paths.{first_repeated}
use Rattle.dir_files.proofs.CallLemmas.{bad_config, made_after, made_before, with_config, without_config}
use Rattle.dir_files.proofs.slapmodify.run.Goals as goal

pub returns-in-Ok-types-clause-calls : goal.returns-in-Ok-types-clause-calls
returns-in-Ok-types-clause-calls g c =
    with_config c.args.words.now (first_repeated c.args.words.now) _ (sym c.in_default.ensures) c.in-Some-config.path.now (ap option_copied c.in-Some-config.is)
    (g.F.FileSystem.disk c.args.files.now) (g.F.FileSystem.disk c.open.new.self) (g.F.FileSystem.disk c.run_under.new.files) (g.F.Input.Source.left c.in-Ok.config.file)
    c.in-Ok.ensures.told c.in-Ok.ensures.text c.in-Ok-types.schema c.in-Ok-types.ensures.ok
    (made_before (g.F.FileSystem.disk c.open.new.self) (g.F.FileSystem.disk c.close.new.self) (g.F.FileSystem.disk c.run_under.new.files) _ c.close.ensures.told c.run_under.ensures.calls)

pub returns-in-Err-types-clause-calls : goal.returns-in-Err-types-clause-calls
returns-in-Err-types-clause-calls g c =
    made_after (g.F.FileSystem.disk c.args.files.now) (g.F.FileSystem.disk c.open.new.self) (g.F.FileSystem.disk c.close.new.self) _ c.close.ensures.told
    (bad_config c.args.words.now (first_repeated c.args.words.now) _ (sym c.in_default.ensures) c.in-Some-config.path.now (ap option_copied c.in-Some-config.is)
    (g.F.FileSystem.disk c.args.files.now) (g.F.FileSystem.disk c.open.new.self) (g.F.Input.Source.left c.in-Ok.config.file) c.in-Err-types.fault
    c.in-Ok.ensures.told c.in-Ok.ensures.text c.in-Err-types.ensures.fault c.run_fault.ensures)

pub returns-in-Ok-builtin-clause-calls : goal.returns-in-Ok-builtin-clause-calls
returns-in-Ok-builtin-clause-calls g c =
    without_config c.args.words.now (first_repeated c.args.words.now) _ (sym c.in_default.ensures)
    (g.F.FileSystem.disk c.args.files.now) (g.F.FileSystem.disk c.run_under-in-Ok-builtin.new.files) c.in-Ok-builtin.schema (ap option_copied c.in-None.is) (cc c.in-Ok-builtin.ensures)
    c.run_under-in-Ok-builtin.ensures.calls
