use Rattle.std.proofs.Common.{◌≡◌, rules}
use Rattle.std.proofs.lemmas.Bool.Decides.{Decides-at}
use Rattle.dir_names.specs.Covers.{covers}
use Rattle.dir_names.proofs.Compared.{covers_decides}
use Rattle.dir_names.proofs.attribute.AttrKey.covers.Goals as goal

pub returns-then-has_type_of-clause-meaning : goal.returns-then-has_type_of-clause-meaning
returns-then-has_type_of-clause-meaning c =
    let same : c.is_subset.result ≡ covers c.args.self.now c.args.other.now = search rules in
    Decides-at _ _ same (covers_decides _ _)
