use Rattle.std.proofs.Common.{IsTrue, rules, subst, Bool}
use Rattle.std.specs.Ordering.{is_lt}
use Rattle.std.proofs.lemmas.Fn.{always_returns_same}
use Rattle.dir_names.specs.declared.value.ValueKey.{ValueKey}
use Rattle.dir_names.specs.Values.{value_key_cmp, value_key_cmp_total}
use Rattle.dir_tree.specs.declared.packed.PackedValue.{PackedValue}
use Rattle.dir_tree.specs.Inside.Packed.{packed_value}
use Rattle.dir_names.specs.Sorted.{rises}
use Rattle.dir_tree.proofs.Adjacent.{from_adjacent}
use Rattle.dir_tree.proofs.PackedLists.{keys-packed}
use Rattle.dir_tree.proofs.packed.PackedSlice.rises.Goals as goal

pub returns : goal.returns
returns c t =
    let key : PackedValue → ValueKey = λ v. (packed_value c.args.self.pool.text.now c.args.self.pool.names.now v).0 in
    let test : PackedValue → PackedValue → Bool = λ x y. is_lt (value_key_cmp (key x) (key y)) in
    let answer = c.is_sorted_by.ensures.cases test (always_returns_same _ _ _ (λ a r f called. search rules)) in
    subst (λ keys. IsTrue (rises value_key_cmp keys)) (keys-packed c.args.self.pool.text.now c.args.self.pool.names.now c.args.self.values.now)
    (from_adjacent value_key_cmp value_key_cmp_total key test (λ x y e. e) c.args.self.values.now c.is_sorted_by.result answer t)
