use Rattle.std.proofs.Common.{◌≡◌, refl}
use Rattle.dir_tools.specs.declared.fault.Input.TheVariants as input
use Rattle.dir_tools.specs.declared.fault.ToolFault.TheVariants as tool
use Rattle.dir_tools.specs.AccessAnswers.{AccessSources, Asking, IsAsked, access_sources}
use Rattle.dir_tools.specs.AccessReport.{AccessTerms, access_terms}
use Rattle.dir_tools.specs.CopyOf.{empty_copy}
use Rattle.dir_tools.specs.Inside.Asking.{configured_under, parts_in}
use Rattle.dir_tools.proofs.AccessLemmas.{copy_blamed, copy_first, no_report_after, no_report_blamed, no_report_first, no_report_unread}
use Rattle.dir_tools.proofs.acl.report_for.Goals as goal

-- the copy is not read

pub returns-in-Err-clause-blamed : goal.returns-in-Err-clause-blamed
returns-in-Err-clause-blamed g c start known is =
    let t : AccessTerms = access_terms start c.args.question.now in
    let asking : Asking = record { config = configured_under c.args.schema.now c.args.config.now; parts = parts_in c.args.parts.now } in
    let asked : IsAsked t known asking = record { reads = is; parts = c.requires } in
    let sources : AccessSources = access_sources known (g.R.Source.left c.args.copy.now) in
    copy_blamed t sources asking (empty_copy asking.config.configuration.suffix).entries _ _ c.in-Err.fault asked refl refl c.in-Err.ensures.blamed

pub returns-in-Err-clause-first : goal.returns-in-Err-clause-first
returns-in-Err-clause-first g c start known is =
    let t : AccessTerms = access_terms start c.args.question.now in
    let asking : Asking = record { config = configured_under c.args.schema.now c.args.config.now; parts = parts_in c.args.parts.now } in
    let asked : IsAsked t known asking = record { reads = is; parts = c.requires } in
    copy_first t known asking _ _ (empty_copy asking.config.configuration.suffix).entries _ _ c.in-Err.fault asked refl c.in-Err.ensures.blamed c.in-Err.ensures.settled

-- the report is made

pub returns-in-Ok-report_on-clause-ok : goal.returns-in-Ok-report_on-clause-ok
returns-in-Ok-report_on-clause-ok g c start known is =
    let t : AccessTerms = access_terms start c.args.question.now in
    let asking : Asking = record { config = configured_under c.args.schema.now c.args.config.now; parts = parts_in c.args.parts.now } in
    let asked : IsAsked t known asking = record { reads = is; parts = c.requires } in
    let made = c.in-Ok-report_on.ensures.ok in
    record { asking = asking; asked = asked; directory = c.in-Ok.directory; copy = c.in-Ok.ensures.reads; target = made.0; target_is = made.1; report_is = made.2 }

-- there is none

pub returns-in-Err-report_on-clause-blamed : goal.returns-in-Err-report_on-clause-blamed
returns-in-Err-report_on-clause-blamed g c start known is =
    let t : AccessTerms = access_terms start c.args.question.now in
    let asking : Asking = record { config = configured_under c.args.schema.now c.args.config.now; parts = parts_in c.args.parts.now } in
    let asked : IsAsked t known asking = record { reads = is; parts = c.requires } in
    let sources : AccessSources = access_sources known (g.R.Source.left c.args.copy.now) in
    no_report_blamed t sources asking asked c.in-Ok.directory c.in-Err-report_on.fault c.in-Ok.ensures.reads c.in-Err-report_on.ensures.err

pub returns-in-Err-report_on-clause-first : goal.returns-in-Err-report_on-clause-first
returns-in-Err-report_on-clause-first g c start known is = no_report_first _ (access_terms start c.args.question.now) known _ _ c.in-Err-report_on.fault c.in-Err-report_on.ensures.err

pub returns-in-Err-report_on-clause-after : goal.returns-in-Err-report_on-clause-after
returns-in-Err-report_on-clause-after g c = no_report_after _ c.in-Err-report_on.fault c.in-Err-report_on.ensures.err

pub returns-in-Err-report_on-clause-read_copy : goal.returns-in-Err-report_on-clause-read_copy
returns-in-Err-report_on-clause-read_copy g c is =
    let same : c.in-Err-report_on.fault ≡ tool.Read input.Copy = cc is in
    absurd (no_report_unread _ c.in-Err-report_on.fault c.in-Err-report_on.ensures.err same)
