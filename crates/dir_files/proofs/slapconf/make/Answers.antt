use Rattle.std.proofs.Common.{◌≡◌, List, Some, ap, sym, ◌∙◌}
use Rattle.dir_names.specs.Table.Builtin.{builtin_rows}
use Rattle.dir_names.specs.declared.schema.TypeRow.{TypeRow}
use Rattle.dir_tools.specs.Suffix.{suffix_of}
use Rattle.dir_files.specs.declared.words.ConfSource.TheVariants.{CnConfig, SlapdConf}
use Rattle.dir_files.proofs.ConfCalls.{made_for, no_suffix}
use Rattle.dir_files.proofs.slapconf.make.Goals as goal

pub returns-in_default-clause-calls : goal.returns-in_default-clause-calls
returns-in_default-clause-calls g c = no_suffix c.args.words.now (g.F.FileSystem.disk c.args.files.now) _ c.run_fault.ensures

pub returns-in-SlapdConf-clause-calls : goal.returns-in-SlapdConf-clause-calls
returns-in-SlapdConf-clause-calls g c =
    let words = c.args.words.now in
    let schema = c.in-Ok.ensures in
    let rows : c.in-Ok.schema ≡ builtin_rows = cc in
    let suffix : suffix_of builtin_rows words.suffix.now ≡ Some c.in-Ok-suffix_key.suffix =
    ap (λ (rows : List TypeRow). suffix_of rows words.suffix.now) (sym rows) ∙ ap (suffix_of c.in-Ok.schema) (sym c.as_bytes.ensures.value) ∙ c.in-Ok-suffix_key.ensures.ok in
    made_for words c.in-Ok-suffix_key.suffix (SlapdConf c.in-SlapdConf.path) (g.F.FileSystem.disk c.args.files.now) (g.F.FileSystem.disk c.of_slapd_conf.new.files) c.of_slapd_conf.result suffix c.in-SlapdConf.is c.of_slapd_conf.ensures.calls

pub returns-clause-calls : goal.returns-clause-calls
returns-clause-calls g c =
    let words = c.args.words.now in
    let schema = c.in-Ok.ensures in
    let rows : c.in-Ok.schema ≡ builtin_rows = cc in
    let suffix : suffix_of builtin_rows words.suffix.now ≡ Some c.in-Ok-suffix_key.suffix =
    ap (λ (rows : List TypeRow). suffix_of rows words.suffix.now) (sym rows) ∙ ap (suffix_of c.in-Ok.schema) (sym c.as_bytes.ensures.value) ∙ c.in-Ok-suffix_key.ensures.ok in
    made_for words c.in-Ok-suffix_key.suffix (CnConfig c.in-CnConfig.path) (g.F.FileSystem.disk c.args.files.now) (g.F.FileSystem.disk c.of_cn_config.new.files) c.of_cn_config.result suffix c.in-CnConfig.is c.of_cn_config.ensures.calls
