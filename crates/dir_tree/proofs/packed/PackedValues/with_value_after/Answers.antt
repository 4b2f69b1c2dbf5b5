use Rattle.std.proofs.Common.{◌≡◌, map, length, sym, ap, subst, ◌∙◌, arith, rules}
use Rattle.std.specs.List.{All, insert}
use Rattle.std.proofs.lemmas.List.{length-map}
use Rattle.dir_tree.specs.Inside.Packed.{IsInside, packed_value}
use Rattle.dir_tree.proofs.PackedLists.{inside-insert, values-insert}
use Rattle.dir_tree.proofs.packed.PackedValues.with_value_after.Goals as goal

pub returns-in-Ok : goal.returns-in-Ok
returns-in-Ok c =
    let text = c.self.inside.pool.text.items in
    let names = c.self.inside.pool.names.items in
    let vs = c.self.inside.values.items in
    let v = c.in_ok-pool.value in
    let told = c.in_ok-pool.ensures in
    let at = c.place_after-at.result in
    let value = packed_value c.in_ok-pool.pool.text.items c.in_ok-pool.pool.names.items v in
    let items : c.insert.new.self.items ≡ insert vs at v = search rules in
    let long : length vs ≡ length c.args.self = sym (length-map vs (packed_value text names)) ∙ ap length c.self.view_is in
    let slice : c.as_slice.result.now ≡ vs = search rules in
    record {
      key = value.0;
      at = at;
      keyed = told.key;
      after = c.place_after-at.ensures.after;
      inside = omega (arith, c.place_after-at.ensures.inside, ap length slice, long);
      is =
          ap (map (packed_value c.in_ok-pool.pool.text.items c.in_ok-pool.pool.names.items)) items
          ∙ values-insert text c.in_ok-pool.pool.text.items names c.in_ok-pool.pool.names.items vs v told.text told.names c.self.invariant at (value.0, c.args.bytes.now) (λ i. (value.0, told.bytes i))
          ∙ ap (λ values. insert values at (value.0, c.args.bytes.now)) c.self.view_is;
    }

pub invariant_of-result : goal.invariant_of-result
invariant_of-result c =
    let told = c.in_ok-pool.ensures in
    let items : c.insert.new.self.items ≡ insert c.self.inside.values.items c.place_after-at.result c.in_ok-pool.value = search rules in
    subst (All (IsInside c.in_ok-pool.pool.text.items c.in_ok-pool.pool.names.items)) (sym items)
    (inside-insert c.self.inside.pool.text.items c.in_ok-pool.pool.text.items c.self.inside.pool.names.items c.in_ok-pool.pool.names.items c.self.inside.values.items c.in_ok-pool.value told.text told.names c.self.invariant c.place_after-at.result told.inside)
