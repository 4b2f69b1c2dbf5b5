use Rattle.std.proofs.Common.{◌≡◌, Some, ap, rules}
use Rattle.std.specs.FinMap as fin
use Rattle.std.specs.Option.{option_map}
use Rattle.dir_change.specs.Inside.Exchanged.{settled_by}
use Rattle.dir_change.proofs.ExchangedSlots.{put_back, put_settled, respelled, some_inserted}
use Rattle.dir_change.proofs.exchange.settle_spelled.Goals as goal

pub replace_values-requires : goal.replace_values-requires
replace_values-requires c =
    let k = c.args.before.now.key in
    let xs = c.args.attributes.now in
    let same : c.key-key.result.now ≡ k = search rules in
    let out : c.replace_values-values.new.self ≡ fin.insert xs k (respelled (fin.get xs k) c.empty.result) = search rules in
    let some : fin.get c.replace_values-values.new.self k ≡ Some (respelled (fin.get xs k) c.empty.result) = some_inserted xs c.replace_values-values.new.self k (respelled (fin.get xs k) c.empty.result) out in
    search rules

pub returns : goal.returns
returns c =
    let k = c.args.before.now.key in
    let xs = c.args.attributes.now in
    let ys = c.replace_values-values.new.self in
    let zs = c.replace_values.new.self in
    let old = c.replace_values-values.result in
    let values = c.settle_values.new.values in
    let a = c.args.before.now.stored in
    let b = c.args.after.stored in
    let out : ys ≡ fin.insert xs k (respelled (fin.get xs k) c.empty.result) = search rules in
    let back : zs ≡ fin.insert ys k (respelled (fin.get ys k) values) = search rules in
    let was : option_map (λ a. a.values) (fin.get xs k) ≡ Some old = search rules in
    let settled : values ≡ settled_by b.values old (fin.entries a.values) = search rules in
    put_settled xs zs k old values was (put_back xs ys zs k c.empty.result values out back) a b c.requires.spelled settled
