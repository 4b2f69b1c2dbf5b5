use Rattle.std.proofs.Common.{◌++◌, ap, sym, ◌∙◌}
use Rattle.std.proofs.lemmas.List.{append_assoc}
use Rattle.std.proofs.lemmas.List.Concat.{flat_map-append}
use Rattle.std.specs.List.{flat_map}
use Rattle.dir_conf.specs.Flat.{directive_line}
use Rattle.dir_conf.proofs.flat.push_all_lines.Goals as goal

pub returns : goal.returns
returns c =
    let old = c.args.text.now.items in
    let own = c.args.own.now in
    let more = c.args.frontend.now in
    c.in_ok-push_lines-2.ensures
    ∙ ap (λ t. t ++ flat_map directive_line more) c.in_ok-push_lines.ensures
    ∙ append_assoc old (flat_map directive_line own) (flat_map directive_line more)
    ∙ ap (λ t. old ++ t) (sym (flat_map-append directive_line own more))
