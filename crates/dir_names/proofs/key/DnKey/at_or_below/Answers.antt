use Rattle.std.proofs.Common.{◌≡◌, rules}
use Rattle.std.specs.List.{starts_with}
use Rattle.dir_names.specs.Orders.{rdn_key_eq}
use Rattle.dir_names.proofs.Compared.{at_or_below_decides}
use Rattle.dir_names.proofs.key.DnKey.at_or_below.Goals as goal

pub returns : goal.returns
returns c =
    let e : c.starts_with.result ≡ starts_with rdn_key_eq c.args.self.now c.args.other.now = search rules in
    at_or_below_decides _ _ _ e
