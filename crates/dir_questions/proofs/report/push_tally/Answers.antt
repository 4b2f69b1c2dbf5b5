use Rattle.std.proofs.Common.{◌∷◌, ◌++◌, [], ap, codes, ◌∙◌}
use Rattle.std.specs.Fmt.{decimal}
use Rattle.dir_questions.proofs.Tallies.{three_counts}
use Rattle.dir_questions.proofs.report.push_tally.Goals as goal

pub returns : goal.returns
returns c =
    let old = c.args.text.now.items in
    let tally = c.args.tally in
    c.in_ok-push.ensures.items
    ∙ ap (λ t. t ++ 10 ∷ []) (c.in_ok-push_count-3.ensures ∙ ap (λ t. t ++ (codes ", asked " ++ decimal tally.asked)) (c.in_ok-push_count-2.ensures ∙ ap (λ t. t ++ (codes ", otherwise " ++ decimal tally.otherwise)) c.in_ok-push_count.ensures))
    ∙ three_counts old (codes "as expected ") (decimal tally.expected) (codes ", otherwise ") (decimal tally.otherwise) (codes ", asked ") (decimal tally.asked) (10 ∷ [])
