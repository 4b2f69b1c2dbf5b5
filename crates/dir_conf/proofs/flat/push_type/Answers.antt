use Rattle.std.proofs.Common.{◌∷◌, ◌++◌, [], ap, codes, ◌∙◌}
use Rattle.std.proofs.lemmas.List.{append_assoc}
use Rattle.dir_conf.specs.Flat.{type_text}
use Rattle.dir_conf.proofs.flat.push_type.Goals as goal

pub returns : goal.returns
unfolding type_text
returns c =
    let old = c.args.text.now.items in
    let definition = c.args.definition.now in
    c.in_ok-push.ensures.items
    ∙ ap (λ t. t ++ 10 ∷ []) (c.in_ok-extend_from_slice-2.ensures.items ∙ ap (λ t. t ++ definition) c.in_ok-extend_from_slice.ensures.items)
    ∙ append_assoc (old ++ codes "attributetype ") definition (10 ∷ [])
    ∙ append_assoc old (codes "attributetype ") (definition ++ 10 ∷ [])
