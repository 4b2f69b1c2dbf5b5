use Rattle.std.proofs.Common.{ap, ◌∙◌, is_some}
use Rattle.std.specs.FinMap as fin
use Rattle.dir_tree.specs.Inside.Searches.{sought_key}
use Rattle.dir_tree.proofs.KeyPlaces.{told}
use Rattle.dir_tree.proofs.values.ValueMap.has_sought.Goals as goal

pub returns : goal.returns
returns c =
    let at = c.find.ensures.place in
    c.is_ok.ensures.value ∙ told c.self.inside.items c.self.invariant (sought_key c.args.sought.now) c.find.result at ∙ ap (λ m. is_some (fin.get m (sought_key c.args.sought.now))) c.self.view_is
