use Rattle.std.proofs.Common.{◌≡◌, List, Ok, Err, Result, map, ap, subst, sym, ◌∙◌, rules}
use Rattle.dir_names.specs.Table.Builtin.{builtin_rows}
use Rattle.dir_names.specs.declared.schema.TypeRow.{TypeRow}
use Rattle.dir_conf.specs.declared.site.Tally.{Tally}
use Rattle.dir_conf.specs.Flat.{flat_parts}
use Rattle.dir_conf.specs.Outcome.{IsFileFaultOf}
use Rattle.dir_conf.specs.SlapdConf.{flat_of_files}
use Rattle.dir_conf.specs.SlapdConf.Files.{file_of}
use Rattle.dir_files.specs.declared.fault.Fault.{Fault}
use Rattle.dir_files.specs.ConfRuns.{MakesOfSlapdConf}
use Rattle.dir_files.specs.Runs.{Made}
use Rattle.dir_files.proofs.ConfCalls.{files_are_made, files_have_none, files_not_read}
use Rattle.dir_files.proofs.slapconf.of_slapd_conf.Goals as goal

pub returns-in_err-read-clause-calls : goal.returns-in_err-read-clause-calls
returns-in_err-read-clause-calls g c =
    let result : c.from_residual.result ≡ Err c.in_err-read.field-0.0 = search rules in
    subst (λ (r : Result Tally Fault). Made (g.F.FileSystem.disk c.args.files.now) (g.F.FileSystem.disk c.read_files.new.files) (MakesOfSlapdConf c.args.suffix.now c.args.path.now c.args.out.now r)) (sym result)
    (files_not_read c.args.suffix.now c.args.path.now c.args.out.now (g.F.FileSystem.disk c.args.files.now) (g.F.FileSystem.disk c.read_files.new.files) c.in_err-read.field-0.0 c.in_err-read.ensures.calls)

pub returns-in-Ok-clause-calls : goal.returns-in-Ok-clause-calls
returns-in-Ok-clause-calls g c =
    let files = map file_of c.in_ok-read.read.files.items in
    let given : flat_of_files c.args.schema.now c.args.suffix.now (map file_of c.as_slice.result.now) ≡ Ok (flat_parts c.in-Ok.flat) = c.in-Ok.ensures in
    let same : flat_of_files builtin_rows c.args.suffix.now files ≡ Ok (flat_parts c.in-Ok.flat) =
    ap (λ (rows : List TypeRow). flat_of_files rows c.args.suffix.now files) (sym c.requires) ∙ ap (λ l. flat_of_files c.args.schema.now c.args.suffix.now (map file_of l)) (sym c.as_slice.ensures.value) ∙ given in
    files_are_made c.args.suffix.now c.args.path.now c.args.out.now (g.F.FileSystem.disk c.args.files.now) (g.F.FileSystem.disk c.read_files.new.files) c.in_ok-read.read c.in_ok-read.ensures.calls
    (g.F.FileSystem.disk c.write_flat.new.files) (flat_parts c.in-Ok.flat) c.write_flat.result same c.write_flat.ensures.calls

pub returns-clause-calls : goal.returns-clause-calls
returns-clause-calls g c =
    let files = map file_of c.in_ok-read.read.files.items in
    let given : IsFileFaultOf c.in-Err.fault (flat_of_files c.args.schema.now c.args.suffix.now (map file_of c.as_slice.result.now)) = c.in-Err.ensures in
    let same : IsFileFaultOf c.in-Err.fault (flat_of_files builtin_rows c.args.suffix.now files) =
    subst (λ (rows : List TypeRow). IsFileFaultOf c.in-Err.fault (flat_of_files rows c.args.suffix.now files)) c.requires
    (subst (λ l. IsFileFaultOf c.in-Err.fault (flat_of_files c.args.schema.now c.args.suffix.now (map file_of l))) c.as_slice.ensures.value given) in
    files_have_none c.args.suffix.now c.args.path.now c.args.out.now (g.F.FileSystem.disk c.args.files.now) (g.F.FileSystem.disk c.read_files.new.files) c.in_ok-read.read c.in_ok-read.ensures.calls
    c.in-Err.fault c.conf_fault.result same c.conf_fault.ensures
