use Rattle.std.proofs.Common.{sym, ap, subst, ◌∙◌, is_some}
use Rattle.std.specs.FinMap as fin
use Rattle.dir_tree.specs.Inside.Packed.{values_of}
use Rattle.dir_tree.specs.Inside.Searches.{sought_key}
use Rattle.dir_tree.specs.Inside.Lent.{AreInOrder, lent_values}
use Rattle.dir_tree.proofs.KeyPlaces.{told}
use Rattle.dir_tree.proofs.views.AttributeView.has_sought.Goals as goal

pub returns-in-Packed : goal.returns-in-Packed
returns-in-Packed c =
    let key = sought_key c.args.sought.now in
    let rises = subst AreInOrder c.in-Packed.is c.self.invariant in
    c.is_ok.ensures.value ∙ told (values_of c.in-Packed.values) rises key c.find.result c.find.ensures.place
    ∙ ap (λ v. is_some (fin.get (lent_values v) key)) (sym c.in-Packed.is) ∙ ap (λ a. is_some (fin.get a.stored.values key)) c.self.view_is
