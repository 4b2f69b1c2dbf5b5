use Rattle.std.proofs.Common.{◌≡◌, nat_lt, ◌&&◌, Bool, List, [], ◌∷◌, ◌||◌, map, refl, sym, ap, ◌∙◌}
use Rattle.std.specs.List.{list_any}
use Rattle.std.specs.FinMap as fin
use Rattle.dir_names.specs.Orders.{attr_cmp_total}
use Rattle.dir_names.specs.Table.{single_of}
use Rattle.dir_names.specs.Attr.{Attr}
use Rattle.dir_tree.specs.Content.{Stored}
use Rattle.dir_tree.specs.Inside.Stored.{attribute_pair}
use Rattle.dir_tree.proofs.SortedVecs.{entries_in}
use Rattle.dir_tree.proofs.attributes.AttributeMap.exceeds_single_value.Goals as goal

any_map : {X Y : Type 0} (p : Y → Bool) (f : X → Y) (xs : List X) → list_any (λ x. p (f x)) xs ≡ list_any p (map f xs)
any_map p f [] = refl
any_map p f (x ∷ xs) = ap (λ b. p (f x) || b) (any_map p f xs)

pub returns : goal.returns
returns c =
    let test : Attr × Stored → Bool = λ a. nat_lt 1 (fin.len a.1.values) && single_of c.args.schema.now a.0 in
    c.any_exceeds_single_value.ensures
    ∙ any_map test attribute_pair c.self.inside.items
    ∙ ap (list_any test) (sym (entries_in attr_cmp_total attribute_pair c.self.inside.items c.self.invariant) ∙ ap (λ m. fin.entries m) c.self.view_is)
