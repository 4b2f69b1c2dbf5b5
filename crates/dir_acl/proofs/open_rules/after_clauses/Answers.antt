use Rattle.std.proofs.Common.{◌≡◌, ◌∷◌, ◌+◌, ℕ, suc, Bool, cond, List, drop, map, sym, ap, ◌∙◌, arith}
use Rattle.std.proofs.Math.Seq.{drop-cons}
use Rattle.std.proofs.lemmas.List.{drop_all}
use Rattle.std.specs.List.{list_all}
use Rattle.dir_acl.specs.declared.access.Clause.{Clause}
use Rattle.dir_acl.specs.declared.access.Who.{Who}
use Rattle.dir_tree.specs.Dir.{Dir}
use Rattle.dir_acl.specs.Bounds.{who_says}
use Rattle.dir_acl.specs.Decision.{Question}
use Rattle.dir_acl.specs.Inside.Bounding.{Parted, Runs, WeighedClause, after_clauses, both_parted, both_runs, edited_runs, may_hold, must_hold, no_runs, passing, taking, weighed_clause, without_it}
use Rattle.dir_acl.specs.Inside.OpenRules.{left, parted_at, runs_at, with_taken}
use Rattle.dir_acl.specs.Inside.Requests.{question_of}
use Rattle.dir_acl.specs.Rules.{clause_of}
use Rattle.dir_acl.proofs.OpenRuns.{no_clause, not_swaps, one_clause}
use Rattle.dir_acl.proofs.open_rules.after_clauses.Goals as goal

pub loop-clause-preserved : goal.loop-clause-preserved
loop-clause-preserved g c = λ p.
    let d : Dir = g.D.Directory.state c.args.directory.now in
    let q : Question = question_of c.args.request.now in
    let clauses : List Clause = c.args.clauses.now in
    let i : ℕ = c.loop-clause.clause-index in
    let clause : Clause = c.clause-item.result in
    let weight : WeighedClause = weighed_clause d q (clause_of clause) in
    let more : drop i clauses ≡ clause ∷ drop (suc i) clauses = drop-cons clauses i clause c.loop-clause-test.true ∙ ap (λ (first : Clause). first ∷ drop (suc i) clauses) (sym c.clause-item.is) in
    let next : i + 1 ≡ suc i = omega arith in
    let live : Runs = runs_at c.loop-clause.live p in
    let may : c.weight_of_who-weight.result.may ≡ weight.may =
    c.weight_of_who-weight.ensures.may ∙ ap (λ (parts : List Who). list_all (may_hold (who_says d q)) parts) c.as_slice.ensures.value in
    let must : c.weight_of_who-weight.result.must ≡ weight.must =
    c.weight_of_who-weight.ensures.must ∙ ap (λ (parts : List Who). list_all (must_hold (who_says d q)) parts) c.as_slice.ensures.value in
    let take : Runs = edited_runs clause.edit p (taking weight.may live) in
    let pass : Runs = passing weight.must live in
    let taken : runs_at c.edited_either-taken.result p ≡ take =
    c.edited_either-taken.ensures p ∙ ap (edited_runs clause.edit p) (c.if_so.ensures p ∙ ap (λ (b : Bool). cond b live no_runs) may) in
    let passed : runs_at c.if_so-passed.result p ≡ pass =
    c.if_so-passed.ensures p ∙ not_swaps c.weight_of_who-weight.result.must live no_runs ∙ ap (λ (b : Bool). cond b no_runs live) must in
    let so_far : Parted = parted_at c.loop-clause.parted p in
    let parted : parted_at c.with-parted.result p ≡ with_taken clause.control so_far take = c.with-parted.ensures p ∙ ap (with_taken clause.control so_far) taken in
    let going : runs_at c.left-live.result p ≡ left clause.control take pass = c.left-live.ensures p ∙ (λ j. left clause.control (taken j) (passed j)) in
    c.loop-clause.invariant p
    ∙ ap (λ (rest : List Clause). both_parted so_far (after_clauses p (map (weighed_clause d q) (map clause_of rest)) live)) more
    ∙ one_clause p so_far weight (map (weighed_clause d q) (map clause_of (drop (suc i) clauses))) live
    ∙ (λ j. both_parted (sym parted j) (after_clauses p (map (weighed_clause d q) (map clause_of (drop (sym next j) clauses))) (sym going j)))

pub returns : goal.returns
returns g c = λ p.
    let d : Dir = g.D.Directory.state c.args.directory.now in
    let q : Question = question_of c.args.request.now in
    let clauses : List Clause = c.args.clauses.now in
    let live : Runs = runs_at c.loop-clause.live p in
    let so_far : Parted = parted_at c.loop-clause.parted p in
    let ended : runs_at c.both.result p ≡ both_runs so_far.ended (without_it live) = c.both.ensures p ∙ ap (both_runs so_far.ended) (c.without_all.ensures p) in
    (λ j. record { on = so_far.on; ended = ended j })
    ∙ sym
    (c.loop-clause.invariant p
    ∙ ap (λ (rest : List Clause). both_parted so_far (after_clauses p (map (weighed_clause d q) (map clause_of rest)) live)) (drop_all c.loop-clause.clause-index clauses c.loop-clause-test.false)
    ∙ no_clause p so_far live)
