use Rattle.std.proofs.Common.{◌≡◌, false, ap, sym, subst, ◌∙◌}
use Rattle.dir_acl.specs.Decision.{is_granted, is_root_for, named}
use Rattle.dir_acl.specs.Inside.ReadingConfig.{configuration_of}
use Rattle.dir_acl.specs.Inside.Requests.{question_of}
use Rattle.dir_acl.specs.Privileges.{has}
use Rattle.dir_acl.proofs.RunningSets.{held_under_rules}
use Rattle.dir_acl.proofs.access.target_rules.TargetRules.privileges.Goals as goal

pub returns-clause-granted : goal.returns-clause-granted
returns-clause-granted g c = λ p.
    let d = g.D.Directory.state c.args.directory.now in
    let config = configuration_of c.args.self.now.config.now in
    let q = question_of c.args.request.now in
    let not_root : is_root_for config.root (named q.requester) ≡ false = subst (λ root. is_root_for root (named q.requester) ≡ false) c.root.ensures (sym c.if-is_root.ensures) in
    ap (λ s. has s p) c.under_rules.ensures.held
    ∙ held_under_rules d config.root q p c.rules-rules.result.now (sym c.if-is_empty.ensures) not_root
    ∙ ap (λ rules. is_granted d config.root rules q p) c.rules-rules.ensures
