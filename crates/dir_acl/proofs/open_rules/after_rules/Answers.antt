use Rattle.std.proofs.Common.{◌≡◌, ◌∷◌, ◌+◌, ℕ, suc, Bool, cond, List, drop, map, sym, ap, ◌∙◌, arith}
use Rattle.std.proofs.Math.Seq.{drop-cons}
use Rattle.std.proofs.lemmas.List.{drop_all}
use Rattle.std.specs.List.{list_all}
use Rattle.dir_tree.specs.Dir.{Dir}
use Rattle.dir_acl.specs.declared.access.Clause.{Clause}
use Rattle.dir_acl.specs.declared.access.Rule.{Rule}
use Rattle.dir_acl.specs.declared.access.What.{What}
use Rattle.dir_acl.specs.Bounds.{what_says}
use Rattle.dir_acl.specs.Decision.{Question}
use Rattle.dir_acl.specs.Inside.Bounding.{Parted, Runs, WeighedRule, after_clauses, after_rules, both_runs, may_hold, must_hold, no_runs, passing, taking, weighed, weighed_clause}
use Rattle.dir_acl.specs.Inside.OpenRules.{parted_at, runs_at}
use Rattle.dir_acl.specs.Inside.Requests.{question_of}
use Rattle.dir_acl.specs.Rules.{clause_of, restriction_of, rule_of, rules_of}
use Rattle.dir_acl.proofs.OpenRuns.{not_swaps, one_rule}
use Rattle.dir_acl.proofs.open_rules.after_rules.Goals as goal

pub loop-rule-preserved : goal.loop-rule-preserved
loop-rule-preserved g c = λ p.
    let d : Dir = g.D.Directory.state c.args.directory.now in
    let q : Question = question_of c.args.request.now in
    let rules : List Rule = c.args.rules.now in
    let i : ℕ = c.loop-rule.rule-index in
    let rule : Rule = c.rule-item.result in
    let weight : WeighedRule = weighed d q (rule_of rule) in
    let more : drop i rules ≡ rule ∷ drop (suc i) rules = drop-cons rules i rule c.loop-rule-test.true ∙ ap (λ (first : Rule). first ∷ drop (suc i) rules) (sym c.rule-item.is) in
    let next : i + 1 ≡ suc i = omega arith in
    let live : Runs = runs_at c.loop-rule.live p in
    let may : c.weight_of_what-weight.result.may ≡ weight.may =
    c.weight_of_what-weight.ensures.may ∙ ap (λ (parts : List What). list_all (may_hold (what_says q)) (map restriction_of parts)) c.as_slice.ensures.value in
    let must : c.weight_of_what-weight.result.must ≡ weight.must =
    c.weight_of_what-weight.ensures.must ∙ ap (λ (parts : List What). list_all (must_hold (what_says q)) (map restriction_of parts)) c.as_slice.ensures.value in
    let start : runs_at c.if_so.result p ≡ taking weight.may live = c.if_so.ensures p ∙ ap (λ (b : Bool). cond b live no_runs) may in
    let passed : runs_at c.if_so-in-loop-rule.result p ≡ passing weight.must live =
    c.if_so-in-loop-rule.ensures p ∙ not_swaps c.weight_of_what-weight.result.must live no_runs ∙ ap (λ (b : Bool). cond b no_runs live) must in
    let through : Parted = after_clauses p weight.clauses (taking weight.may live) in
    let parted : parted_at c.after_clauses-parted.result p ≡ through =
    c.after_clauses-parted.ensures p
    ∙ ap (λ (clauses : List Clause). after_clauses p (map (weighed_clause d q) (map clause_of clauses)) (runs_at c.if_so.result p)) c.as_slice-in-loop-rule.ensures.value
    ∙ ap (after_clauses p weight.clauses) start in
    let so_far : Runs = runs_at c.loop-rule.ended p in
    let ended : runs_at c.both-ended.result p ≡ both_runs so_far through.ended = c.both-ended.ensures p ∙ ap (λ (parted : Parted). both_runs so_far parted.ended) parted in
    let going : runs_at c.both-live.result p ≡ both_runs through.on (passing weight.must live) =
    c.both-live.ensures p ∙ (λ j. both_runs (parted j).on (passed j)) in
    c.loop-rule.invariant p
    ∙ ap (λ (rest : List Rule). both_runs so_far (after_rules p (map (weighed d q) (rules_of rest)) live)) more
    ∙ one_rule p so_far weight (map (weighed d q) (rules_of (drop (suc i) rules))) live
    ∙ (λ j. both_runs (sym ended j) (after_rules p (map (weighed d q) (rules_of (drop (sym next j) rules))) (sym going j)))

pub returns : goal.returns
returns g c = λ p.
    let d : Dir = g.D.Directory.state c.args.directory.now in
    let q : Question = question_of c.args.request.now in
    let rules : List Rule = c.args.rules.now in
    let live : Runs = runs_at c.loop-rule.live p in
    let so_far : Runs = runs_at c.loop-rule.ended p in
    c.both.ensures p
    ∙ ap (both_runs so_far) (c.without_all.ensures p)
    ∙ sym (c.loop-rule.invariant p ∙ ap (λ (rest : List Rule). both_runs so_far (after_rules p (map (weighed d q) (rules_of rest)) live)) (drop_all c.loop-rule.rule-index rules c.loop-rule-test.false))
