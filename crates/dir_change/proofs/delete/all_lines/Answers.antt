use Rattle.std.proofs.Common.{◌≡◌, ◌++◌, ◌∷◌, sym, ap, ◌∙◌, append_assoc}
use Rattle.std.specs.List.{flat_map}
use Rattle.dir_tree.specs.WellFormed.{attribute_lines}
use Rattle.dir_change.proofs.delete.all_lines.Goals as goal

pub loop-attribute-preserved : goal.loop-attribute-preserved
loop-attribute-preserved c =
    let next = c.next.new.self in
    let key : c.in-Some.attribute.key ≡ c.in-Some.field-0-0.now = c.in-Some.ensures.steps.1 in
    let first : c.loop-attribute.attribute-iterator ≡ (c.in-Some.attribute.key, c.in-Some.attribute.stored) ∷ next = c.in-Some.ensures.steps.0 ∙ ap (λ k. (k, c.in-Some.attribute.stored) ∷ next) (sym key) in
    ap (λ ls. ls ++ flat_map attribute_lines next) c.in_ok-push_values.ensures.ok
    ∙ append_assoc c.loop-attribute.lines.items (attribute_lines (c.in-Some.attribute.key, c.in-Some.attribute.stored)) (flat_map attribute_lines next)
    ∙ ap (λ rest. c.loop-attribute.lines.items ++ flat_map attribute_lines rest) (sym first)
    ∙ c.loop-attribute.invariant
