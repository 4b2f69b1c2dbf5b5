use Rattle.std.proofs.Common.{◌≡◌, drop}
use Rattle.std.specs.Prelude.{filter}
use Rattle.dir_acl.specs.Decision.{edits_of_rules, rule_fits}
use Rattle.dir_acl.specs.Inside.Requests.{question_of}
use Rattle.dir_acl.specs.Inside.RunningSet.{after_edits}
use Rattle.dir_acl.specs.Privileges.{no_privileges}
use Rattle.dir_acl.specs.Rules.{rules_of}
use Rattle.dir_acl.specs.RulesFor.{IsRulesFor}
use Rattle.dir_acl.proofs.access.target_rules.TargetRules.under_rules.Given as goal

abbrev pub invariant-loop-index : goal.invariant-loop-index
invariant-loop-index g l =
    let d = g.D.Directory.state l.directory in
    let q = question_of l.request in
    record {
      held : after_edits no_privileges (edits_of_rules d q (filter (rule_fits q) (rules_of l.rules))) ≡ after_edits l.held (edits_of_rules d q (filter (rule_fits q) (rules_of (drop l.index l.rules))));
      config : l.self.config.now ≡ l.fn.self.config.now;
      target : IsRulesFor q.target q.attributes l.self;
    }
