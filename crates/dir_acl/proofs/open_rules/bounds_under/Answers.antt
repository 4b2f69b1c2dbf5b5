use Rattle.std.proofs.Common.{sym, ◌∙◌}
use Rattle.std.specs.Option.{option_copied}
use Rattle.dir_acl.specs.Inside.Bounding.{IsExact}
use Rattle.dir_acl.specs.Inside.Requests.{question_of}
use Rattle.dir_acl.specs.Rules.{rules_of}
use Rattle.dir_acl.proofs.Bounds.Exact.{bounds_exact}
use Rattle.dir_acl.proofs.open_rules.bounds_under.Goals as goal

pub returns-clause-held : goal.returns-clause-held
returns-clause-held g c = λ p.
    let exact : IsExact (g.D.Directory.state c.args.directory.now) (option_copied c.args.root) (rules_of c.args.rules.now) (question_of c.args.request.now) p =
    bounds_exact (g.D.Directory.state c.args.directory.now) (option_copied c.args.root) (rules_of c.args.rules.now) (question_of c.args.request.now) p in
    ((λ has. exact.sure (sym (c.bounds_by_runs.ensures.held p) ∙ has)), (λ held. c.bounds_by_runs.ensures.held p ∙ exact.all_sure held))

pub returns-clause-possible : goal.returns-clause-possible
returns-clause-possible g c = λ p.
    let exact : IsExact (g.D.Directory.state c.args.directory.now) (option_copied c.args.root) (rules_of c.args.rules.now) (question_of c.args.request.now) p =
    bounds_exact (g.D.Directory.state c.args.directory.now) (option_copied c.args.root) (rules_of c.args.rules.now) (question_of c.args.request.now) p in
    ((λ has. exact.possible (sym (c.bounds_by_runs.ensures.possible p) ∙ has)), (λ held. c.bounds_by_runs.ensures.possible p ∙ exact.all_possible held))
