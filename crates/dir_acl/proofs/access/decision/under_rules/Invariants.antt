use Rattle.std.proofs.Common.{◌≡◌, drop}
use Rattle.std.specs.Prelude.{filter}
use Rattle.dir_acl.specs.Decision.{edits_of_rules, rule_fits}
use Rattle.dir_acl.specs.Inside.Requests.{question_of}
use Rattle.dir_acl.specs.Inside.RunningSet.{after_edits}
use Rattle.dir_acl.specs.Privileges.{no_privileges}
use Rattle.dir_acl.specs.Rules.{rules_of}
use Rattle.dir_acl.proofs.access.decision.under_rules.Given as goal

abbrev pub invariant-loop-rule : goal.invariant-loop-rule
invariant-loop-rule g l =
    after_edits no_privileges (edits_of_rules (g.D.Directory.state l.directory) (question_of l.request) (filter (rule_fits (question_of l.request)) (rules_of l.rules)))
    ≡ after_edits l.held (edits_of_rules (g.D.Directory.state l.directory) (question_of l.request) (filter (rule_fits (question_of l.request)) (rules_of (drop l.rule-index l.rules))))
