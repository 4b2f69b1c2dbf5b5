use Rattle.std.proofs.Common.{Some, sym, subst}
use Rattle.std.specs.Prelude.{IfOk}
use Rattle.dir_acl.specs.Outcome.{IsCauseAt}
use Rattle.dir_tools.specs.AccessAnswers.{IsArgumentOf, IsConfigFault}
use Rattle.dir_tools.specs.AccessReport.{configured}
use Rattle.dir_tools.specs.Inside.Asking.{config_fault}
use Rattle.dir_tools.proofs.ConfigTexts.{about_it, blamed, config_limited}
use Rattle.dir_tools.proofs.acl.configuration.read_config_with_argument.Goals as goal

pub returns-clause-fault : goal.returns-clause-fault
returns-clause-fault g c =
    let rows = c.args.schema.now in
    let known = g.R.Source.left c.args.source.now in
    let after = g.R.Source.left c.read_text.new.source in
    let fault = c.in-Err-noted_text.why.fault in
    subst (IsConfigFault rows known) (sym c.config_fault.ensures) (blamed known after c.in-Ok.text.items (configured rows) (config_limited rows) c.in-Ok.ensures.text c.in-Ok.ensures.whole fault.cause fault.line (subst (λ t. IsCauseAt fault.cause fault.line (configured rows t)) c.as_slice.ensures.value c.in-Err-noted_text.ensures.fault))

pub returns-clause-argument : goal.returns-clause-argument
returns-clause-argument g c =
    let rows = c.args.schema.now in
    let known = g.R.Source.left c.args.source.now in
    let after = g.R.Source.left c.read_text.new.source in
    let why = c.in-Err-noted_text.why in
    subst (λ f. IfOk why.argument (IsArgumentOf rows known f)) (sym c.config_fault.ensures) (about_it known after c.in-Ok.text.items rows c.in-Ok.ensures.text c.in-Ok.ensures.whole why.fault why.argument (subst (λ t. IfOk why.argument (IsArgumentOf rows (Some t) (config_fault why.fault))) c.as_slice.ensures.value c.in-Err-noted_text.ensures.argument))
