use Rattle.std.proofs.Common.{◌++◌, ap, sym, ◌∙◌}
use Rattle.std.proofs.lemmas.List.{append_assoc}
use Rattle.std.proofs.lemmas.List.Concat.{flat_map-append}
use Rattle.std.specs.List.{flat_map}
use Rattle.dir_conf.specs.Flat.{type_line}
use Rattle.dir_conf.specs.OwnTypes.{own_types}
use Rattle.dir_conf.proofs.flat.push_all_types.Goals as goal

pub returns : goal.returns
returns c =
    let old = c.args.text.now.items in
    let types = c.args.types.now in
    c.in_ok-push_types.ensures
    ∙ ap (λ t. t ++ flat_map type_line types) (c.in_ok-extend_from_slice.ensures.items ∙ ap (λ t. old ++ t) c.own_text.ensures)
    ∙ append_assoc old (flat_map type_line own_types) (flat_map type_line types)
    ∙ ap (λ t. old ++ t) (sym (flat_map-append type_line own_types types))
