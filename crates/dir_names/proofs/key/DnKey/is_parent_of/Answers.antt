use Rattle.std.proofs.Common.{◌≡◌, [], ◌∷◌, ◌++◌, rules}
use Rattle.dir_names.specs.Orders.{dn_key_eq}
use Rattle.dir_names.proofs.Compared.{is_parent_decides}
use Rattle.dir_names.proofs.key.DnKey.is_parent_of.Goals as goal

pub returns-in-Some : goal.returns-in-Some
returns-in-Some c =
    let parted : c.args.other.now ≡ c.in-Some.above.now ++ c.in-Some.field-0-0.now ∷ [] = search rules in
    let same : c.eq.result ≡ dn_key_eq c.in-Some.above.now c.args.self.now = search rules in
    is_parent_decides _ _ c.in-Some.field-0-0.now c.in-Some.above.now _ parted same
