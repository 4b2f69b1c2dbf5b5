use Rattle.std.proofs.Common.{ℕ, ◌-◌, List, ◌∷◌, [], length, map, subst}
use Rattle.dir_conf.specs.SlapdConf.Files.{file_of, includes_in}
use Rattle.dir_files.specs.Including.{Does, IncludedBelow, StopsBy}
use Rattle.dir_files.proofs.IncludingCalls.{does_before, files_read, no_room, other_not_read}
use Rattle.dir_files.proofs.including.read_files.Goals as goal

pub returns-in-Err-read_included-clause-calls : goal.returns-in-Err-read_included-clause-calls
returns-in-Err-read_included-clause-calls g c =
    other_not_read (g.F.FileSystem.disk c.args.files.now) (g.F.FileSystem.disk c.open.new.self) (g.F.FileSystem.disk c.read_included.new.files) c.args.path.now c.in-Ok-read_file.text.items (g.F.Input.Source.left c.in-Ok.opened.file)
    _ c.in-Ok.ensures.told c.in-Ok.ensures.text c.in-Ok-read_file.ensures.text c.in-Ok-read_file.ensures.short c.in-Err-read_included.why
    (subst (λ (text : List ℕ). Does (g.F.FileSystem.disk c.open.new.self) (g.F.FileSystem.disk c.read_included.new.files) (λ d. StopsBy (16777216 - length text) c.in-Err-read_included.why d)) c.as_slice.ensures.value
    (does_before (g.F.FileSystem.disk c.open.new.self) (g.F.FileSystem.disk c.read_file.new.files) (g.F.FileSystem.disk c.read_included.new.files) _ c.in-Ok-read_file.ensures.told c.in-Err-read_included.ensures.calls)) c.not_read-in-Err-read_included.ensures

pub returns-in-Ok-with_first-clause-calls : goal.returns-in-Ok-with_first-clause-calls
returns-in-Ok-with_first-clause-calls g c =
    files_read (g.F.FileSystem.disk c.args.files.now) (g.F.FileSystem.disk c.open.new.self) (g.F.FileSystem.disk c.read_included.new.files) c.args.path.now c.in-Ok-read_file.text.items (g.F.Input.Source.left c.in-Ok.opened.file)
    (map file_of c.in-Ok-read_included.more.items) (record { mode = c.in-Ok.opened.mode; files = c.in-Ok-with_first.found }) c.in-Ok.ensures.told c.in-Ok.ensures.text c.in-Ok-read_file.ensures.text c.in-Ok.ensures.mode (does_before (g.F.FileSystem.disk c.open.new.self) (g.F.FileSystem.disk c.read_file.new.files) (g.F.FileSystem.disk c.read_included.new.files) _ c.in-Ok-read_file.ensures.told c.in-Ok-read_included.ensures.calls) c.in-Ok-with_first.ensures
    (subst (λ (path : List ℕ). IncludedBelow 15 (path ∷ []) (includes_in c.in-Ok-read_file.text.items) (map file_of c.in-Ok-read_included.more.items)) c.as_bytes.ensures.value
    (subst (λ (text : List ℕ). IncludedBelow 15 (c.as_bytes.result.now ∷ []) (includes_in text) (map file_of c.in-Ok-read_included.more.items)) c.as_slice.ensures.value c.in-Ok-read_included.ensures.included))

pub returns-in-Err-with_first-clause-calls : goal.returns-in-Err-with_first-clause-calls
returns-in-Err-with_first-clause-calls g c =
    no_room (g.F.FileSystem.disk c.args.files.now) (g.F.FileSystem.disk c.open.new.self) (g.F.FileSystem.disk c.read_included.new.files) c.args.path.now c.in-Ok-read_file.text.items (g.F.Input.Source.left c.in-Ok.opened.file)
    _ c.in-Ok.ensures.told c.in-Ok.ensures.text c.in-Ok-read_file.ensures.text c.in-Ok-read_file.ensures.short (map file_of c.in-Ok-read_included.more.items) (does_before (g.F.FileSystem.disk c.open.new.self) (g.F.FileSystem.disk c.read_file.new.files) (g.F.FileSystem.disk c.read_included.new.files) _ c.in-Ok-read_file.ensures.told c.in-Ok-read_included.ensures.calls) c.not_read-in-Err-with_first.ensures
