use Rattle.std.proofs.Common.{◌≡◌, drop, map}
use Rattle.dir_acl.specs.declared.privileges.Privilege.{Privilege}
use Rattle.dir_acl.specs.Inside.Bounding.{after_clauses, both_parted, weighed_clause}
use Rattle.dir_acl.specs.Inside.OpenRules.{parted_at, runs_at}
use Rattle.dir_acl.specs.Inside.Requests.{question_of}
use Rattle.dir_acl.specs.Rules.{clause_of}
use Rattle.dir_acl.proofs.open_rules.after_clauses.Given as goal

-- the runs that were parted so far, and those for which the later clauses are gone through, are those of all clauses
abbrev pub invariant-loop-clause : goal.invariant-loop-clause
invariant-loop-clause g l =
    (p : Privilege) → after_clauses p (map (weighed_clause (g.D.Directory.state l.directory) (question_of l.request)) (map clause_of l.clauses)) (runs_at l.fn.start p)
    ≡ both_parted (parted_at l.parted p) (after_clauses p (map (weighed_clause (g.D.Directory.state l.directory) (question_of l.request)) (map clause_of (drop l.clause-index l.clauses))) (runs_at l.live p))
