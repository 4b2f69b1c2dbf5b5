use Rattle.std.proofs.Common.{◌≡◌, subst}
use Rattle.dir_names.specs.Names.{SpelledPair}
use Rattle.dir_names.specs.NameKeys.{pair_key}
use Rattle.dir_names.specs.Outcome.{Gives, ok_or_bad_dn}
use Rattle.dir_names.proofs.name.pair_key.Goals as goal

pub returns : goal.returns
returns c =
    let same : ◌≡◌ {A = SpelledPair} (c.as_slice.result.now, c.as_slice-2.result.now) c.args.pair.now = λ i. (c.as_slice.ensures i, c.as_slice-2.ensures i) in
    subst (λ (p : SpelledPair). Gives (λ key. key) c.type_and_value_key.result (ok_or_bad_dn (pair_key c.args.schema.now p))) same c.type_and_value_key.ensures
