use Rattle.std.proofs.Common.{◌≡◌, sym, ap, rules}
use Rattle.std.specs.FinMap as fin
use Rattle.dir_change.specs.Inside.Looked.{with_each}
use Rattle.dir_change.proofs.looked.add_those_named.Goals as goal

pub loop-key-init : goal.loop-key-init
loop-key-init c =
    let all : fin.entries c.args.named.now ≡ c.into_iter-key-iterator.result = search rules in
    ap (with_each c.args.attribute.now.stored.values c.args.values.now) all
