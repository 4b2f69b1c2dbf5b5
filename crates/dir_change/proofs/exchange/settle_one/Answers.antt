use Rattle.std.proofs.Common.{◌≡◌, Some, None, sym, ap, ◌∙◌, rules}
use Rattle.std.specs.FinMap as fin
use Rattle.std.specs.Option.{option_map}
use Rattle.dir_tree.specs.Slots.{with_slot}
use Rattle.dir_change.specs.Inside.Exchanged.{settled_slot}
use Rattle.dir_change.proofs.ExchangedSlots.{kept_where_none}
use Rattle.dir_change.proofs.exchange.settle_one.Goals as goal

pub returns-then-is_none : goal.returns-then-is_none
returns-then-is_none c =
    let k = c.args.before.now.key in
    let xs = c.args.attributes.now in
    let a = c.args.before.now.stored in
    let b = c.in-Some.after.stored in
    let none : fin.get xs k ≡ None = search rules in
    let same : Some b ≡ option_map (λ b. b.stored) c.args.after = search rules in
    kept_where_none xs k none ∙ (λ i. with_slot xs k (settled_slot (sym none i) a (same i)))

pub returns-then-eq : goal.returns-then-eq
returns-then-eq c =
    let k = c.args.before.now.key in
    let xs = c.args.attributes.now in
    let a = c.args.before.now.stored in
    let same : Some c.in-Some.after.stored ≡ option_map (λ b. b.stored) c.args.after = search rules in
    c.settle_spelled.ensures ∙ ap (λ o. with_slot xs k (settled_slot (fin.get xs k) a o)) same
