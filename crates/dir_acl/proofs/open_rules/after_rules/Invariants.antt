use Rattle.std.proofs.Common.{◌≡◌, drop, map}
use Rattle.dir_acl.specs.declared.privileges.Privilege.{Privilege}
use Rattle.dir_acl.specs.Inside.Bounding.{after_rules, both_runs, weighed}
use Rattle.dir_acl.specs.Inside.OpenRules.{runs_at}
use Rattle.dir_acl.specs.Inside.Requests.{question_of}
use Rattle.dir_acl.specs.Rules.{rules_of}
use Rattle.dir_acl.proofs.open_rules.after_rules.Given as goal

-- the runs that have ended so far, and those for which the later rules are gone through, are those of all rules
abbrev pub invariant-loop-rule : goal.invariant-loop-rule
invariant-loop-rule g l =
    (p : Privilege) → after_rules p (map (weighed (g.D.Directory.state l.directory) (question_of l.request)) (rules_of l.rules)) (runs_at l.fn.start p)
    ≡ both_runs (runs_at l.ended p) (after_rules p (map (weighed (g.D.Directory.state l.directory) (question_of l.request)) (rules_of (drop l.rule-index l.rules))) (runs_at l.live p))
