use Rattle.std.proofs.Common.{ap, sym, ◌∙◌}
use Rattle.std.specs.Option.{option_copied}
use Rattle.dir_acl.specs.Privileges.{has}
use Rattle.dir_acl.specs.Inside.Requests.{question_of}
use Rattle.dir_acl.proofs.RunningSets.{root_has_all, reads_without_rules, held_under_rules}
use Rattle.dir_acl.proofs.access.decision.privileges_under.Goals as goal

pub returns-then-is_root : goal.returns-then-is_root
returns-then-is_root g c = λ p.
    ap (λ s. has s p) c.all.ensures
    ∙ root_has_all (g.D.Directory.state c.args.directory.now) (option_copied c.args.root) (question_of c.args.request.now) p c.args.rules.now (sym c.if-is_root.ensures)

pub returns-then-is_empty : goal.returns-then-is_empty
returns-then-is_empty g c = λ p.
    ap (λ s. has s p) c.privileges.ensures
    ∙ reads_without_rules (g.D.Directory.state c.args.directory.now) (option_copied c.args.root) (question_of c.args.request.now) p c.args.rules.now (sym c.if-is_empty.ensures) (sym c.if-is_root.ensures)

pub returns : goal.returns
returns g c = λ p.
    ap (λ s. has s p) c.under_rules.ensures
    ∙ held_under_rules (g.D.Directory.state c.args.directory.now) (option_copied c.args.root) (question_of c.args.request.now) p c.args.rules.now (sym c.if-is_empty.ensures) (sym c.if-is_root.ensures)
