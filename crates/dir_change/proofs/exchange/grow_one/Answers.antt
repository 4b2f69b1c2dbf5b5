use Rattle.std.proofs.Common.{◌≡◌, Some, None, rules}
use Rattle.std.specs.FinMap as fin
use Rattle.std.specs.Option.{option_map}
use Rattle.std.proofs.lemmas.Result.{on_ok_weaker}
use Rattle.dir_change.proofs.ExchangedSlots.{growing_either, put_back, put_grown, put_growing, respelled, some_inserted, whole_growing}
use Rattle.dir_change.proofs.exchange.grow_one.Goals as goal

pub returns-then-is_none-clause-growing : goal.returns-then-is_none-clause-growing
returns-then-is_none-clause-growing c =
    let b = c.args.after.now in
    let is : c.put.new.self ≡ fin.insert c.args.attributes.now b.key b.stored = search rules in
    let none : fin.get c.args.attributes.now b.key ≡ None = search rules in
    whole_growing c.args.attributes.now c.put.new.self b.key b.stored none is

pub replace_values-requires : goal.replace_values-requires
replace_values-requires c =
    let k = c.args.after.now.key in
    let xs = c.args.attributes.now in
    let same : c.key-key.result.now ≡ k = search rules in
    let out : c.replace_values-values.new.self ≡ fin.insert xs k (respelled (fin.get xs k) c.empty.result) = search rules in
    let some : fin.get c.replace_values-values.new.self k ≡ Some (respelled (fin.get xs k) c.empty.result) = some_inserted xs c.replace_values-values.new.self k (respelled (fin.get xs k) c.empty.result) out in
    search rules

pub returns-clause-ok : goal.returns-clause-ok
returns-clause-ok c =
    let k = c.args.after.now.key in
    let xs = c.args.attributes.now in
    let ys = c.replace_values-values.new.self in
    let zs = c.replace_values.new.self in
    let old = c.replace_values-values.result in
    let values = c.grow_values-grown.new.values in
    let out : ys ≡ fin.insert xs k (respelled (fin.get xs k) c.empty.result) = search rules in
    let back : zs ≡ fin.insert ys k (respelled (fin.get ys k) values) = search rules in
    let was : option_map (λ a. a.values) (fin.get xs k) ≡ Some old = search rules in
    on_ok_weaker c.grow_values-grown.result (put_grown xs zs k old values was (put_back xs ys zs k c.empty.result values out back) c.args.after.now.stored) c.grow_values-grown.ensures.ok

pub returns-clause-growing : goal.returns-clause-growing
returns-clause-growing c =
    let k = c.args.after.now.key in
    let xs = c.args.attributes.now in
    let ys = c.replace_values-values.new.self in
    let zs = c.replace_values.new.self in
    let old = c.replace_values-values.result in
    let values = c.grow_values-grown.new.values in
    let b = c.args.after.now.stored in
    let out : ys ≡ fin.insert xs k (respelled (fin.get xs k) c.empty.result) = search rules in
    let back : zs ≡ fin.insert ys k (respelled (fin.get ys k) values) = search rules in
    let was : option_map (λ a. a.values) (fin.get xs k) ≡ Some old = search rules in
    put_growing xs zs k old values was (put_back xs ys zs k c.empty.result values out back) b (growing_either c.grow_values-grown.result old b.values values c.grow_values-grown.ensures.ok c.grow_values-grown.ensures.err)
