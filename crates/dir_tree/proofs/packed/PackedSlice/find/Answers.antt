use Rattle.std.proofs.Common.{rules, sym, ap, subst, ◌∙◌, IsTrue}
use Rattle.std.proofs.lemmas.Fn.{always_returns_same}
use Rattle.std.proofs.lemmas.Simd.{map-map}
use Rattle.dir_names.specs.Values.{value_key_cmp, value_key_cmp_total}
use Rattle.dir_names.specs.Sorted.{place, rises}
use Rattle.dir_tree.specs.Inside.Packed.{packed_value}
use Rattle.dir_tree.specs.Inside.Searches.{sought_key}
use Rattle.dir_tree.proofs.SortedVecs.{placed}
use Rattle.dir_tree.proofs.packed.PackedSlice.find.Goals as goal

pub returns-clause-place : goal.returns-clause-place
returns-clause-place c =
    let text = c.args.self.pool.text.now in
    let names = c.args.self.pool.names.now in
    let values = c.args.self.values.now in
    let key = sought_key c.args.sought.now in
    let keys = map-map (λ value. value.0) (packed_value text names) values in
    let by = c.binary_search_by.ensures.position (λ value. value_key_cmp (packed_value text names value).0 key) (always_returns_same _ _ _ (λ a r f called. search rules)) in
    placed value_key_cmp_total (packed_value text names) values (subst (λ ks. IsTrue (rises value_key_cmp ks)) keys c.requires) key c.binary_search_by.result (search rules) by
    ∙ ap (place value_key_cmp key) (sym keys)
