use Rattle.std.proofs.Common.{◌≡◌, ℕ, List, Err, Ok, ap, subst, sym, ◌∙◌}
use Rattle.dir_names.specs.Table.Builtin.{builtin_rows}
use Rattle.dir_names.specs.declared.schema.TypeRow.{TypeRow}
use Rattle.dir_conf.specs.CnConfig.{flat_of_config}
use Rattle.dir_conf.specs.Flat.{flat_parts}
use Rattle.dir_conf.specs.Outcome.{IsConfFaultOf}
use Rattle.dir_files.proofs.CallLemmas.{made_after, made_before}
use Rattle.dir_files.proofs.ConfCalls.{text_has_none, text_is_made, text_not_read}
use Rattle.dir_files.proofs.slapconf.of_cn_config.Goals as goal

pub returns-in-Err-read_file-clause-calls : goal.returns-in-Err-read_file-clause-calls
returns-in-Err-read_file-clause-calls g c =
    made_after (g.F.FileSystem.disk c.args.files.now) (g.F.FileSystem.disk c.open.new.self) (g.F.FileSystem.disk c.read_file.new.files) _ c.in-Err-read_file.ensures.told
    (text_not_read c.args.suffix.now c.args.path.now c.args.out.now (g.F.FileSystem.disk c.args.files.now) (g.F.FileSystem.disk c.open.new.self) c.in-Ok.ensures.told (g.F.Input.Source.left c.in-Ok.opened.file) c.in-Ok.ensures.text
    c.in-Err-read_file.why c.not_read.result (λ long. c.in-Err-read_file.ensures.long (ap Err long)) c.not_read.ensures)

pub returns-in-Ok-flat_of_config-clause-calls : goal.returns-in-Ok-flat_of_config-clause-calls
returns-in-Ok-flat_of_config-clause-calls g c =
    let given : flat_of_config c.args.schema.now c.args.suffix.now c.as_slice.result.now ≡ Ok (flat_parts c.in-Ok-flat_of_config.flat) = c.in-Ok-flat_of_config.ensures in
    let same : flat_of_config builtin_rows c.args.suffix.now c.in-Ok-read_file.text.items ≡ Ok (flat_parts c.in-Ok-flat_of_config.flat) =
    ap (λ (rows : List TypeRow). flat_of_config rows c.args.suffix.now c.in-Ok-read_file.text.items) (sym c.requires) ∙ ap (flat_of_config c.args.schema.now c.args.suffix.now) (sym c.as_slice.ensures.value) ∙ given in
    text_is_made c.args.suffix.now c.args.path.now c.args.out.now (g.F.FileSystem.disk c.args.files.now) (g.F.FileSystem.disk c.open.new.self) c.in-Ok.ensures.told (g.F.Input.Source.left c.in-Ok.opened.file) c.in-Ok.ensures.text
    c.in-Ok-read_file.text.items c.in-Ok-read_file.ensures.text (g.F.FileSystem.disk c.write_flat.new.files) c.in-Ok.opened.mode (flat_parts c.in-Ok-flat_of_config.flat) c.write_flat.result same c.in-Ok.ensures.mode (made_before (g.F.FileSystem.disk c.open.new.self) (g.F.FileSystem.disk c.read_file.new.files) (g.F.FileSystem.disk c.write_flat.new.files) _ c.in-Ok-read_file.ensures.told c.write_flat.ensures.calls)

pub returns-clause-calls : goal.returns-clause-calls
returns-clause-calls g c =
    let given : IsConfFaultOf c.in-Err-flat_of_config.fault (flat_of_config c.args.schema.now c.args.suffix.now c.as_slice.result.now) = c.in-Err-flat_of_config.ensures in
    let same : IsConfFaultOf c.in-Err-flat_of_config.fault (flat_of_config builtin_rows c.args.suffix.now c.in-Ok-read_file.text.items) =
    subst (λ (rows : List TypeRow). IsConfFaultOf c.in-Err-flat_of_config.fault (flat_of_config rows c.args.suffix.now c.in-Ok-read_file.text.items)) c.requires
    (subst (λ (text : List ℕ). IsConfFaultOf c.in-Err-flat_of_config.fault (flat_of_config c.args.schema.now c.args.suffix.now text)) c.as_slice.ensures.value given) in
    made_after (g.F.FileSystem.disk c.args.files.now) (g.F.FileSystem.disk c.open.new.self) (g.F.FileSystem.disk c.read_file.new.files) _ c.in-Ok-read_file.ensures.told
    (text_has_none c.args.suffix.now c.args.path.now c.args.out.now (g.F.FileSystem.disk c.args.files.now) (g.F.FileSystem.disk c.open.new.self) c.in-Ok.ensures.told (g.F.Input.Source.left c.in-Ok.opened.file) c.in-Ok.ensures.text
    c.in-Ok-read_file.text.items c.in-Ok-read_file.ensures.text c.in-Err-flat_of_config.fault c.conf_fault.result same c.conf_fault.ensures)
