use Rattle.std.proofs.Common.{◌≡◌, Some, ap, subst, rules}
use Rattle.std.specs.FinMap as fin
use Rattle.dir_tree.specs.WellFormed.{Each}
use Rattle.dir_change.specs.Inside.Exchanged.{all_grown}
use Rattle.dir_change.proofs.ExchangedAttributes.{each_there}
use Rattle.dir_change.proofs.ExchangedSlots.{growing_itself}
use Rattle.dir_change.proofs.exchange.grow.Goals as goal

pub loop-attribute-init : goal.loop-attribute-init
loop-attribute-init c =
    let xs = c.args.attributes.now in
    let after = c.args.after.now in
    let all : fin.entries after ≡ c.into_iter-attribute-iterator.result = search rules in
    (ap (all_grown xs) all, (λ q. growing_itself (fin.get xs q) (fin.get after q)), subst (Each (λ e. fin.get after e.0 ≡ Some e.1)) all (each_there after))
