use Rattle.std.proofs.Common.{◌≡◌, drop, map}
use Rattle.std.specs.Prelude.{filter}
use Rattle.dir_acl.specs.Decision.{applies, edits_of, ends_in_break}
use Rattle.dir_acl.specs.Inside.Requests.{question_of}
use Rattle.dir_acl.specs.Inside.RunningSet.{after_edits}
use Rattle.dir_acl.specs.Rules.{clause_of}
use Rattle.dir_acl.proofs.access.decision.after_clauses.Given as goal

abbrev pub invariant-loop-clause : goal.invariant-loop-clause
invariant-loop-clause g l = record {
  held :
      after_edits l.fn.before (edits_of (filter (applies (g.D.Directory.state l.directory) (question_of l.request)) (map clause_of l.clauses)))
      ≡ after_edits l.held (edits_of (filter (applies (g.D.Directory.state l.directory) (question_of l.request)) (map clause_of (drop l.clause-index l.clauses))));
  end :
      ends_in_break (filter (applies (g.D.Directory.state l.directory) (question_of l.request)) (map clause_of l.clauses))
      ≡ ends_in_break (filter (applies (g.D.Directory.state l.directory) (question_of l.request)) (map clause_of (drop l.clause-index l.clauses)));
}
