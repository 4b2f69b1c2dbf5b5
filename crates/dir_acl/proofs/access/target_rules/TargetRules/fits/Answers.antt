use Rattle.std.proofs.Common.{◌∙◌}
use Rattle.std.specs.Option.{option_copied}
use Rattle.dir_acl.specs.Inside.Fakes.{attributes_of}
use Rattle.dir_acl.specs.Inside.Requests.{question_of}
use Rattle.dir_acl.specs.Rules.{rule_of}
use Rattle.dir_acl.proofs.KnownRules.{fits_by_parts, fits_if_asked, fits_no_other}
use Rattle.dir_acl.proofs.access.target_rules.TargetRules.fits.Goals as goal

pub returns-in-No-clause-fits : goal.returns-in-No-clause-fits
returns-in-No-clause-fits c =
    let self = c.args.self.now in
    let rule = rule_of c.args.rule.now in
    fits_no_other (question_of c.args.request.now) rule self.target.now (attributes_of (option_copied self.entry)) c.requires.target.0 c.requires.target.1 (c.in-No.ensures rule c.requires.at)

pub returns-in-Yes-clause-fits : goal.returns-in-Yes-clause-fits
returns-in-Yes-clause-fits c =
    let self = c.args.self.now in
    let rule = rule_of c.args.rule.now in
    c.allows_asked.ensures
    ∙ fits_if_asked (question_of c.args.request.now) rule self.target.now (attributes_of (option_copied self.entry)) c.requires.target.0 c.requires.target.1 (c.in-Yes.ensures rule c.requires.at)

pub returns-in-NotYetKnown-clause-fits : goal.returns-in-NotYetKnown-clause-fits
returns-in-NotYetKnown-clause-fits c =
    let self = c.args.self.now in
    c.trial-fits.ensures.fits
    ∙ fits_by_parts (question_of c.args.request.now) (rule_of c.args.rule.now) self.target.now (attributes_of (option_copied self.entry)) c.requires.target.0 c.requires.target.1
