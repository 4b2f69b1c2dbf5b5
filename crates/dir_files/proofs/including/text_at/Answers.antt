use Rattle.dir_files.proofs.IncludingCalls.{does_after, not_asked, read_at, refused_at}
use Rattle.dir_names.proofs.AsciiFolding.{not_utf8}
use Rattle.dir_files.proofs.including.text_at.Goals as goal

pub returns-in_default-clause-calls : goal.returns-in_default-clause-calls
returns-in_default-clause-calls g c = not_asked (g.F.FileSystem.disk c.args.files.now) c.args.path.now (not_utf8 c.args.path.now c.in_default.ensures.cases.0)

pub returns-in_ok-read_file-in-Ok-open-clause-calls : goal.returns-in_ok-read_file-in-Ok-open-clause-calls
returns-in_ok-read_file-in-Ok-open-clause-calls g c =
    does_after (g.F.FileSystem.disk c.args.files.now) (g.F.FileSystem.disk c.open.new.self) (g.F.FileSystem.disk c.read_file.new.files) _ c.in_ok-read_file-in-Ok-open.ensures.told
    (read_at (g.F.FileSystem.disk c.args.files.now) (g.F.FileSystem.disk c.open.new.self) c.in-Ok.path.now c.args.path.now c.in_ok-read_file-in-Ok-open.field-0.items (g.F.Input.Source.left c.in-Ok-open.opened.file)
    c.in-Ok.ensures.cases.0 c.in-Ok-open.ensures.told c.in-Ok-open.ensures.text c.in_ok-read_file-in-Ok-open.ensures.text)

pub returns-in-Err-Exists-clause-calls : goal.returns-in-Err-Exists-clause-calls
returns-in-Err-Exists-clause-calls g c =
    let is = c.in-Err-Exists.field-0-is in
    refused_at (g.F.FileSystem.disk c.args.files.now) (g.F.FileSystem.disk c.open.new.self) c.in-Ok.path.now c.args.path.now c.in-Err-Exists.field-0 (λ same. cc) c.in-Ok.ensures.cases.0 c.in-Err-Exists.ensures.told

pub returns-in-Err-Other-clause-calls : goal.returns-in-Err-Other-clause-calls
returns-in-Err-Other-clause-calls g c =
    let is = c.in-Err-Other.field-0-is in
    refused_at (g.F.FileSystem.disk c.args.files.now) (g.F.FileSystem.disk c.open.new.self) c.in-Ok.path.now c.args.path.now c.in-Err-Other.field-0 (λ same. cc) c.in-Ok.ensures.cases.0 c.in-Err-Other.ensures.told
