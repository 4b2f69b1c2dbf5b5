use Rattle.dir_tools.specs.AccessAnswers.{AccessSources, access_sources}
use Rattle.dir_tools.specs.AccessReport.{AccessTerms, access_terms}
use Rattle.dir_tools.specs.Inside.Asking.{configured_under}
use Rattle.dir_tools.proofs.AccessLemmas.{question_blamed}
use Rattle.dir_tools.proofs.acl.report_under.Goals as goal

pub returns-in-Err-clause-blamed : goal.returns-in-Err-clause-blamed
returns-in-Err-clause-blamed g c start known is =
    let t : AccessTerms = access_terms start c.args.question.now in
    let sources : AccessSources = access_sources known (g.R.Source.left c.args.copy.now) in
    question_blamed t sources (configured_under c.args.schema.now c.args.config.now) c.in-Err.fault is c.in-Err.ensures
