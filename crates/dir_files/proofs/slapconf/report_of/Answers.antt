use Rattle.std.proofs.Common.{◌∷◌, ◌++◌, [], ap, codes, ◌∙◌}
use Rattle.std.specs.Fmt.{decimal}
use Rattle.dir_files.specs.ConfRuns.{conf_report}
use Rattle.dir_questions.proofs.Tallies.{three_counts}
use Rattle.dir_files.proofs.slapconf.report_of.Goals as goal

pub returns : goal.returns
returns c =
    let tally = c.args.tally in
    c.in_ok-push.ensures.items
    ∙ ap (λ t. t ++ 10 ∷ []) (c.in_ok-push_count-3.ensures ∙ ap (λ t. t ++ (codes ", frontend " ++ decimal tally.frontend)) (c.in_ok-push_count-2.ensures ∙ ap (λ t. t ++ (codes ", rules " ++ decimal tally.rules)) c.in_ok-push_count.ensures))
    ∙ three_counts c.new-text.result.items (codes "types ") (decimal tally.types) (codes ", rules ") (decimal tally.rules) (codes ", frontend ") (decimal tally.frontend) (10 ∷ [])
    ∙ ap (λ t. t ++ conf_report tally) c.new-text.ensures.items
