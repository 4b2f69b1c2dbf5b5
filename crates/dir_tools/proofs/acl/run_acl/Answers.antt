use Rattle.std.proofs.Common.{[]}
use Rattle.dir_tools.specs.AccessAnswers.{AccessSources, IsAccessFault, access_sources}
use Rattle.dir_tools.specs.AccessReport.{AccessTerms, access_terms}
use Rattle.dir_tools.specs.Inside.Asking.{configured_by}
use Rattle.dir_tools.proofs.AccessLemmas.{answers_so, blamed, held_before, not_before, nothing_written, whole_answer}
use Rattle.dir_tools.proofs.acl.run_acl.Goals as goal

pub returns-in-Err-clause-answer : goal.returns-in-Err-clause-answer
returns-in-Err-clause-answer g c =
    let t : AccessTerms = access_terms c.args.schema.now c.args.question.now in
    let config = g.R.Source.left c.args.config.now in
    let copy = g.R2.Source.left c.args.copy.now in
    let known : AccessSources = access_sources config copy in
    let at_fault : IsAccessFault t known c.in-Err.fault = blamed t known c.in-Err.fault c.in-Err.ensures.fault in (
      [],
      nothing_written Unit t known c.in-Err.fault (g.W.Sink.taken c.args.report.now) at_fault,
      answers_so Unit t known c.in-Err.fault [] at_fault,
      whole_answer Unit t config copy c.in-Err.fault [] at_fault,
    )

pub returns-clause-answer : goal.returns-clause-answer
returns-clause-answer g c =
    let h = c.run_acl_under.ensures.answer in
    let answer = h.2 c.args.schema.now (g.R.Source.left c.args.config.now) c.in-Ok.ensures.ok in
    (h.0, h.1, answer.0, answer.1)

pub returns-clause-first : goal.returns-clause-first
returns-clause-first g c =
    held_before (access_terms c.args.schema.now c.args.question.now) (g.R.Source.left c.args.config.now) (configured_by c.in-Ok.found) _ c.run_acl_under.result c.in-Ok.ensures.ok c.run_acl_under.ensures.first

pub returns-clause-read_config : goal.returns-clause-read_config
returns-clause-read_config g c is = absurd (not_before c.run_acl_under.result c.run_acl_under.ensures.after is)
