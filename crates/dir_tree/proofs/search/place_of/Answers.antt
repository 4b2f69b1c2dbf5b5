use Rattle.std.proofs.Common.{rules}
use Rattle.std.proofs.lemmas.Fn.{always_returns_same}
use Rattle.dir_names.specs.Values.{value_key_cmp, value_key_cmp_total}
use Rattle.dir_tree.specs.Inside.Searches.{sought_key}
use Rattle.dir_tree.specs.Inside.Stored.{value_pair}
use Rattle.dir_tree.proofs.SortedVecs.{placed}
use Rattle.dir_tree.proofs.search.place_of.Goals as goal

pub returns-clause-place : goal.returns-clause-place
returns-clause-place c =
    let by = c.binary_search_by.ensures.position (λ value. value_key_cmp value.0 (sought_key c.args.sought.now)) (always_returns_same _ _ _ (λ a r f called. search rules)) in
    placed value_key_cmp_total value_pair c.args.items.now c.requires (sought_key c.args.sought.now) c.binary_search_by.result (search rules) by
