use Rattle.std.proofs.Common.{◌≡◌, false, sym, ◌∙◌}
use Rattle.std.specs.Prelude.{◌==◌}
use Rattle.std.specs.List.{list_any}
use Rattle.dir_names.proofs.PlusLemmas.{no_plus}
use Rattle.dir_names.proofs.name.reading.split_at_plus.Goals as goal

pub returns-else-contains-clause-pieces : goal.returns-else-contains-clause-pieces
returns-else-contains-clause-pieces c =
    let none : list_any (λ b. b == 43) c.args.text.now ≡ false = sym c.contains.ensures.value ∙ c.if-contains.false in
    no_plus c.args.text.now false none
