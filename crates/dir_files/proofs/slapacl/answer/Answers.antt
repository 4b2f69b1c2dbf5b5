use Rattle.std.proofs.Common.{◌≡◌, IfOk, List, subst}
use Rattle.dir_names.specs.Table.Builtin.{builtin_rows}
use Rattle.dir_names.specs.declared.schema.TypeRow.{TypeRow}
use Rattle.dir_tools.specs.declared.fault.ToolFault.TheVariants as tool
use Rattle.dir_tools.specs.AccessAnswers.{IsArgumentOf, IsConfigFault, IsTextOf}
use Rattle.dir_tools.specs.Inside.Asking.{configured_of}
use Rattle.dir_files.proofs.AccessCalls.{unread}
use Rattle.dir_files.proofs.FaultArgumentLemmas.{found_told, none_told}
use Rattle.dir_files.proofs.slapacl.answer.Goals as goal

pub returns-in_default-clause-calls : goal.returns-in_default-clause-calls
returns-in_default-clause-calls g c =
    unread Unit c.args.words.now (g.R.Source.left c.args.config.now) (g.R2.Source.left c.args.copy.now) tool.Memory c.run_fault.result (g.F.FileSystem.disk c.args.files.now) tt c.run_fault.ensures

pub returns-clause-calls : goal.returns-clause-calls
returns-clause-calls g c =
    let rows : c.in-Ok.schema ≡ builtin_rows = cc c.in-Ok.ensures in
    let fault : IsConfigFault builtin_rows (g.R.Source.left c.args.config.now) c.in-Err.why.fault =
    subst (λ (rows : List TypeRow). IsConfigFault rows (g.R.Source.left c.args.config.now) c.in-Err.why.fault) rows c.in-Err.ensures.fault in
    unread Unit c.args.words.now (g.R.Source.left c.args.config.now) (g.R2.Source.left c.args.copy.now) c.in-Err.why.fault c.run_fault-in-Err.result (g.F.FileSystem.disk c.args.files.now) fault c.run_fault-in-Err.ensures

pub returns-clause-argument : goal.returns-clause-argument
returns-clause-argument g c =
    let text = g.R.Source.left c.args.config.now in
    let why = c.in-Err.why in
    let rows : c.in-Ok.schema ≡ builtin_rows = cc c.in-Ok.ensures in
    let fault : IsConfigFault builtin_rows text why.fault = subst (λ (rows : List TypeRow). IsConfigFault rows text why.fault) rows c.in-Err.ensures.fault in
    let about : IfOk why.argument (IsArgumentOf builtin_rows text why.fault) = subst (λ (rows : List TypeRow). IfOk why.argument (IsArgumentOf rows text why.fault)) rows c.in-Err.ensures.argument in
    found_told Unit c.args.words.now.verbose text why.fault c.run_fault-in-Err.result why.argument (g.T.NoteTeller.arguments c.args.teller.now) (g.T.NoteTeller.arguments c.hand_over.new.teller) fault about c.run_fault-in-Err.ensures c.hand_over.ensures.kept

pub returns-in-Ok-read_config_with_argument-clause-calls : goal.returns-in-Ok-read_config_with_argument-clause-calls
returns-in-Ok-read_config_with_argument-clause-calls g c =
    let text = g.R.Source.left c.args.config.now in
    let found = c.in-Ok-read_config_with_argument.noted in
    let rows : c.in-Ok.schema ≡ builtin_rows = cc c.in-Ok.ensures in
    let config : IsTextOf builtin_rows text (configured_of found) = subst (λ (rows : List TypeRow). IsTextOf rows text (configured_of found)) rows c.in-Ok-read_config_with_argument.ensures.config in
    c.answer_under.ensures.calls text config

pub returns-in-Ok-read_config_with_argument-clause-notes : goal.returns-in-Ok-read_config_with_argument-clause-notes
returns-in-Ok-read_config_with_argument-clause-notes g c =
    let text = g.R.Source.left c.args.config.now in
    let found = c.in-Ok-read_config_with_argument.noted in
    let rows : c.in-Ok.schema ≡ builtin_rows = cc c.in-Ok.ensures in
    let config : IsTextOf builtin_rows text (configured_of found) = subst (λ (rows : List TypeRow). IsTextOf rows text (configured_of found)) rows c.in-Ok-read_config_with_argument.ensures.config in
    c.answer_under.ensures.notes text config c.in-Ok-read_config_with_argument.ensures.notes

pub returns-in-Ok-read_config_with_argument-clause-argument : goal.returns-in-Ok-read_config_with_argument-clause-argument
returns-in-Ok-read_config_with_argument-clause-argument g c =
    none_told c.args.words.now.verbose (g.R.Source.left c.args.config.now) c.answer_under.result (g.T.NoteTeller.arguments c.args.teller.now) (g.T.NoteTeller.arguments c.answer_under.new.teller) c.answer_under.ensures.argument
