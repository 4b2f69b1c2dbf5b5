use Rattle.std.proofs.Common.{◌≡◌, ap, ◌∙◌, rules}
use Rattle.std.specs.FinMap as fin
use Rattle.dir_change.specs.Inside.Exchanged.{all_grown, all_settled}
use Rattle.dir_change.proofs.ExchangedAttributes.{are_as_before, are_exchanged}
use Rattle.dir_change.proofs.exchange.exchange.Goals as goal

pub returns-in-Err-clause-err : goal.returns-in-Err-clause-err
returns-in-Err-clause-err c = c.shrink.ensures ∙ are_as_before c.args.attributes.now c.args.before.now c.args.after c.requires c.grow.new.attributes c.grow.ensures.growing

pub returns-clause-ok : goal.returns-clause-ok
returns-clause-ok c q =
    let xs = c.args.attributes.now in
    let before = c.args.before.now in
    let after = c.args.after in
    let settled : c.settle.new.attributes ≡ all_settled after (all_grown xs (fin.entries after)) (fin.entries before) = search rules in
    ap (λ ys. fin.get ys q) settled ∙ are_exchanged xs before after c.requires q
