use Rattle.std.proofs.Common.{map, sym, ap, subst, ◌∙◌, ◌++◌, ◌∷◌, []}
use Rattle.std.specs.List.{All}
use Rattle.dir_tree.specs.Inside.Packed.{IsInside, packed_value}
use Rattle.dir_tree.specs.Lent.{key_or_value}
use Rattle.dir_tree.proofs.PackedLists.{inside-push, values-push}
use Rattle.dir_tree.proofs.packed.PackedValues.with_value.Goals as goal

pub returns-in-Ok-push : goal.returns-in-Ok-push
returns-in-Ok-push c =
    ap (map (packed_value c.in-Ok.pool.text.items c.in-Ok.pool.names.items)) c.in-Ok-push.ensures.items
    ∙ values-push c.self.inside.pool.text.items c.in-Ok.pool.text.items c.self.inside.pool.names.items c.in-Ok.pool.names.items c.self.inside.values.items c.in-Ok.value c.in-Ok.ensures.text c.in-Ok.ensures.names c.self.invariant (key_or_value c.args.key c.args.bytes.now, c.args.bytes.now) c.in-Ok.ensures.value
    ∙ ap (λ front. front ++ (key_or_value c.args.key c.args.bytes.now, c.args.bytes.now) ∷ []) c.self.view_is

pub invariant_of-result : goal.invariant_of-result
invariant_of-result c =
    subst (All (IsInside c.in-Ok.pool.text.items c.in-Ok.pool.names.items)) (sym c.in-Ok-push.ensures.items)
    (inside-push c.self.inside.pool.text.items c.in-Ok.pool.text.items c.self.inside.pool.names.items c.in-Ok.pool.names.items c.self.inside.values.items c.in-Ok.value c.in-Ok.ensures.text c.in-Ok.ensures.names c.self.invariant c.in-Ok.ensures.inside)
