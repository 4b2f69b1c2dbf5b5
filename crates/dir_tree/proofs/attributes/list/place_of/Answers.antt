use Rattle.std.proofs.Common.{rules}
use Rattle.std.proofs.lemmas.Fn.{always_returns_same}
use Rattle.dir_names.specs.Orders.{attr_cmp, attr_cmp_total}
use Rattle.dir_tree.specs.Inside.Stored.{attribute_pair}
use Rattle.dir_tree.proofs.SortedVecs.{placed}
use Rattle.dir_tree.proofs.attributes.list.place_of.Goals as goal

pub returns-clause-place : goal.returns-clause-place
returns-clause-place c =
    let by = c.binary_search_by.ensures.position (λ attribute. attr_cmp attribute.key c.args.key.now) (always_returns_same _ _ _ (λ a r f called. search rules)) in
    placed attr_cmp_total attribute_pair c.args.attributes.now c.requires c.args.key.now c.binary_search_by.result (search rules) by
