use Rattle.std.proofs.Common.{◌≡◌, IfOk, List, inl, subst}
use Rattle.dir_names.specs.Table.Builtin.{builtin_rows}
use Rattle.dir_names.specs.declared.schema.TypeRow.{TypeRow}
use Rattle.dir_questions.specs.declared.report.Tally.{Tally}
use Rattle.dir_tools.specs.declared.fault.ToolFault.TheVariants as tool
use Rattle.dir_tools.specs.AccessAnswers.{IsArgumentOf, IsConfigFault, IsTextOf}
use Rattle.dir_tools.specs.Inside.Asking.{configured_of}
use Rattle.dir_files.proofs.FailureLemmas.{by_config}
use Rattle.dir_files.proofs.FaultArgumentLemmas.{found_told, none_told}
use Rattle.dir_files.proofs.QuestionCalls.{unread}
use Rattle.dir_files.proofs.questions.answered.Goals as goal

pub returns-in_default-clause-answer : goal.returns-in_default-clause-answer
returns-in_default-clause-answer g c =
    unread c.args.words.now (g.R.Source.left c.args.config.now) (g.R2.Source.left c.args.questions.now) (g.R3.Source.left c.args.copy.now) tool.Memory c.run_fault.result _ _ tt c.run_fault.ensures

pub returns-in-Err-clause-answer : goal.returns-in-Err-clause-answer
returns-in-Err-clause-answer g c =
    let text = g.R.Source.left c.args.config.now in
    let rows : c.in-Ok.schema ≡ builtin_rows = cc c.in-Ok.ensures in
    let fault : IsConfigFault builtin_rows text c.in-Err.why.fault = subst (λ (rows : List TypeRow). IsConfigFault rows text c.in-Err.why.fault) rows c.in-Err.ensures.fault in
    unread c.args.words.now text (g.R2.Source.left c.args.questions.now) (g.R3.Source.left c.args.copy.now) c.in-Err.why.fault c.run_fault-in-Err.result _ _ fault c.run_fault-in-Err.ensures

pub returns-in-Err-clause-argument : goal.returns-in-Err-clause-argument
returns-in-Err-clause-argument g c =
    let text = g.R.Source.left c.args.config.now in
    let why = c.in-Err.why in
    let rows : c.in-Ok.schema ≡ builtin_rows = cc c.in-Ok.ensures in
    let fault : IsConfigFault builtin_rows text why.fault = subst (λ (rows : List TypeRow). IsConfigFault rows text why.fault) rows c.in-Err.ensures.fault in
    let about : IfOk why.argument (IsArgumentOf builtin_rows text why.fault) = subst (λ (rows : List TypeRow). IfOk why.argument (IsArgumentOf rows text why.fault)) rows c.in-Err.ensures.argument in
    found_told Tally c.args.words.now.verbose text why.fault c.run_fault-in-Err.result why.argument (g.T.NoteTeller.arguments c.args.teller.now) (g.T.NoteTeller.arguments c.hand_over.new.teller) fault about c.run_fault-in-Err.ensures c.hand_over.ensures.kept

pub returns-in-Err-clause-failed : goal.returns-in-Err-clause-failed
returns-in-Err-clause-failed g c tells =
    by_config _ c.in-Ok.schema (g.R.Source.left c.args.config.now) c.in-Err.why.fault c.run_fault-in-Err.result c.run_fault-in-Err.ensures c.in-Err.ensures.fault tells
    (λ is. inl (inl (c.in-Err.ensures.read is)))

pub returns-clause-answer : goal.returns-clause-answer
returns-clause-answer g c =
    let text = g.R.Source.left c.args.config.now in
    let found = c.in-Ok-read_config_with_argument.noted in
    let rows : c.in-Ok.schema ≡ builtin_rows = cc c.in-Ok.ensures in
    let config : IsTextOf builtin_rows text (configured_of found) = subst (λ (rows : List TypeRow). IsTextOf rows text (configured_of found)) rows c.in-Ok-read_config_with_argument.ensures.config in
    c.answered_under.ensures.answer text config

pub returns-clause-notes : goal.returns-clause-notes
returns-clause-notes g c =
    let text = g.R.Source.left c.args.config.now in
    let found = c.in-Ok-read_config_with_argument.noted in
    let rows : c.in-Ok.schema ≡ builtin_rows = cc c.in-Ok.ensures in
    let config : IsTextOf builtin_rows text (configured_of found) = subst (λ (rows : List TypeRow). IsTextOf rows text (configured_of found)) rows c.in-Ok-read_config_with_argument.ensures.config in
    c.answered_under.ensures.notes text config c.in-Ok-read_config_with_argument.ensures.notes

pub returns-clause-argument : goal.returns-clause-argument
returns-clause-argument g c =
    none_told c.args.words.now.verbose (g.R.Source.left c.args.config.now) c.answered_under.result (g.T.NoteTeller.arguments c.args.teller.now) (g.T.NoteTeller.arguments c.answered_under.new.teller) c.answered_under.ensures.argument
