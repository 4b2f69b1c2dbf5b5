use Rattle.std.proofs.Common.{◌≡◌, Some, None, sym, ap, ◌∙◌, rules}
use Rattle.std.specs.FinMap as fin
use Rattle.std.specs.Option.{option_map}
use Rattle.dir_tree.specs.Slots.{with_slot}
use Rattle.dir_change.specs.Inside.Exchanged.{shrunk_by, shrunk_slot}
use Rattle.dir_change.proofs.ExchangedSlots.{kept_where_none, put_back, put_shrunk, respelled, some_inserted}
use Rattle.dir_change.proofs.exchange.shrink_one.Goals as goal

pub replace_values-requires : goal.replace_values-requires
replace_values-requires c =
    let k = c.args.after.now.key in
    let xs = c.args.attributes.now in
    let same : c.key-key.result.now ≡ k = search rules in
    let out : c.replace_values-values.new.self ≡ fin.insert xs k (respelled (fin.get xs k) c.empty.result) = search rules in
    let some : fin.get c.replace_values-values.new.self k ≡ Some (respelled (fin.get xs k) c.empty.result) = some_inserted xs c.replace_values-values.new.self k (respelled (fin.get xs k) c.empty.result) out in
    search rules

pub returns-then-is_some : goal.returns-then-is_some
returns-then-is_some c =
    let k = c.args.after.now.key in
    let xs = c.args.attributes.now in
    let ys = c.replace_values-values.new.self in
    let zs = c.replace_values.new.self in
    let old = c.replace_values-values.result in
    let values = c.shrink_values.new.values in
    let a = c.in-Some.before.now.stored in
    let b = c.args.after.now.stored in
    let out : ys ≡ fin.insert xs k (respelled (fin.get xs k) c.empty.result) = search rules in
    let back : zs ≡ fin.insert ys k (respelled (fin.get ys k) values) = search rules in
    let was : option_map (λ a. a.values) (fin.get xs k) ≡ Some old = search rules in
    let shrunk : values ≡ shrunk_by a.values old (fin.entries b.values) = search rules in
    let same : Some a ≡ option_map (λ a. a.now.stored) c.args.before = search rules in
    put_shrunk xs zs k old values was (put_back xs ys zs k c.empty.result values out back) a b shrunk ∙ ap (λ o. with_slot xs k (shrunk_slot (fin.get xs k) o b)) same

pub returns-else-is_some : goal.returns-else-is_some
returns-else-is_some c =
    let k = c.args.after.now.key in
    let xs = c.args.attributes.now in
    let b = c.args.after.now.stored in
    let none : fin.get xs k ≡ None = search rules in
    kept_where_none xs k none ∙ ap (λ o. with_slot xs k (shrunk_slot o (option_map (λ a. a.now.stored) c.args.before) b)) (sym none)
