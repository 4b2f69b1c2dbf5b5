use Rattle.std.proofs.Common.{Bool, rules}
use Rattle.std.specs.Ordering.{is_lt}
use Rattle.std.proofs.lemmas.Fn.{always_returns_same}
use Rattle.dir_names.specs.Attr.{Attr}
use Rattle.dir_names.specs.Orders.{attr_cmp, attr_cmp_total}
use Rattle.dir_tree.specs.declared.packed.PackedAttribute.{PackedAttribute}
use Rattle.dir_tree.proofs.Adjacent.{from_adjacent}
use Rattle.dir_tree.proofs.packed.pattern.keys_rise.Goals as goal

pub returns : goal.returns
returns c t =
    let key : PackedAttribute → Attr = λ a. a.description.key in
    let test : PackedAttribute → PackedAttribute → Bool = λ x y. is_lt (attr_cmp (key x) (key y)) in
    let answer = c.is_sorted_by.ensures.cases test (always_returns_same _ _ _ (λ a r f called. search rules)) in
    from_adjacent attr_cmp attr_cmp_total key test (λ x y e. e) c.args.attributes.now c.is_sorted_by.result answer t
