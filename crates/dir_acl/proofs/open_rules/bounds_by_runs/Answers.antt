use Rattle.std.proofs.Common.{◌≡◌, Bool, not, map, ap, ◌∙◌}
use Rattle.std.specs.Prelude.{◌&&◌, ◌||◌}
use Rattle.dir_tree.specs.Dir.{Dir}
use Rattle.dir_acl.specs.declared.privileges.Privileges.{Privileges}
use Rattle.dir_acl.specs.Decision.{Question}
use Rattle.dir_acl.specs.Inside.Bounding.{Runs, all_runs, weighed}
use Rattle.dir_acl.specs.Inside.Requests.{question_of}
use Rattle.dir_acl.specs.Privileges.{has}
use Rattle.dir_acl.specs.Rules.{rules_of}
use Rattle.dir_acl.proofs.OpenRuns.{without_at}
use Rattle.dir_acl.proofs.RunningSets.{has_all}
use Rattle.dir_acl.proofs.open_rules.bounds_by_runs.Goals as goal

pub returns-clause-held : goal.returns-clause-held
returns-clause-held g c = λ p.
    let d : Dir = g.D.Directory.state c.args.directory.now in
    let q : Question = question_of c.args.request.now in
    let lacking : has c.all_runs-runs.result.lacking p ≡ (all_runs p (map (weighed d q) (rules_of c.args.rules.now))).lacking = ap (λ (runs : Runs). runs.lacking) (c.all_runs-runs.ensures p) in
    ap (λ (set : Privileges). has set p) c.without.ensures
    ∙ without_at c.all-2.result c.all_runs-runs.result.lacking p
    ∙ ap (λ (set : Privileges). has set p && not (has c.all_runs-runs.result.lacking p)) c.all-2.ensures
    ∙ (λ i. has_all p i && not (lacking i))
    ∙ ap (λ (is_root : Bool). is_root || not (all_runs p (map (weighed d q) (rules_of c.args.rules.now))).lacking) c.if-is_root.ensures
